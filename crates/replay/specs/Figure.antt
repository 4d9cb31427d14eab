-- The value of a figure by its nodes, as the code works it out. Assumes nothing: these are definitions.
use Rattle.std.specs.Prelude.{ℕ, zero, suc, ◌+◌, ℤ, pos, ◌+ℤ◌, ◌-ℤ◌, ◌*ℤ◌, int_lt, nat_lt}
use Rattle.std.proofs.Common.{to_z}
use Rattle.std.specs.Int.{int_wrap, w64}
use Rattle.deals.specs.Contract.{pick, down, flag, million}
use Rattle.texts.specs.declared.nodes.Node.{Node}
use Rattle.texts.specs.declared.nodes.Node.TheVariants.{Nothing, Pays, Turned, Both, Choice, If, Of, On, When, By, Fixed, Rate, Day, Plus, Minus, Times, Max, Less}
use Rattle.replay.specs.Days.{rate_before}
use Rattle.replay.specs.Parts.{behind}

-- what a node makes of the values of the two figures within it
abbrev pub combined : Node → ℤ → ℤ → ℤ
combined Nothing a b = pos 0
combined (Pays k c) a b = pos 0
combined Turned a b = pos 0
combined Both a b = pos 0
combined Choice a b = pos 0
combined If a b = pos 0
combined Of a b = pos 0
combined (On d) a b = pos 0
combined When a b = pos 0
combined (By d) a b = pos 0
combined (Fixed c) a b = pos 0
combined (Rate k n) a b = pos 0
combined Day a b = pos 0
combined Plus a b = int_wrap w64 (a +ℤ b)
combined Minus a b = int_wrap w64 (a -ℤ b)
combined Times a b = down (int_wrap w64 (a *ℤ b)) million
combined Max a b = pick (int_lt a b) b a
combined Less a b = flag (int_lt a b)

-- a node at place i, by the figures within it
unfoldable pub figure_of : (ℕ → ℕ → ℤ) → (ℕ → Node) → ℕ → (ℕ → ℤ) → ℕ → Node → ℤ
figure_of rates node t go i Nothing = pos 0
figure_of rates node t go i (Pays k a) = pos 0
figure_of rates node t go i Turned = pos 0
figure_of rates node t go i Both = pos 0
figure_of rates node t go i Choice = pos 0
figure_of rates node t go i If = pos 0
figure_of rates node t go i Of = pos 0
figure_of rates node t go i (On d) = pos 0
figure_of rates node t go i When = pos 0
figure_of rates node t go i (By d) = pos 0
figure_of rates node t go i (Fixed a) = a
figure_of rates node t go i (Rate k n) = rate_before rates t k n
figure_of rates node t go i Day = to_z w64 t
figure_of rates node t go i Plus = combined Plus (go (i + 1)) (go (behind node (i + 1)))
figure_of rates node t go i Minus = combined Minus (go (i + 1)) (go (behind node (i + 1)))
figure_of rates node t go i Times = combined Times (go (i + 1)) (go (behind node (i + 1)))
figure_of rates node t go i Max = combined Max (go (i + 1)) (go (behind node (i + 1)))
figure_of rates node t go i Less = combined Less (go (i + 1)) (go (behind node (i + 1)))

-- the figure at place i on day t, at most n deep
unfoldable pub figure_at : (ℕ → ℕ → ℤ) → (ℕ → Node) → ℕ → ℕ → ℕ → ℤ
figure_at rates node t zero i = pos 0
figure_at rates node t (suc n) i = pick (nat_lt i 256) (figure_of rates node t (figure_at rates node t n) i (node i)) (pos 0)
