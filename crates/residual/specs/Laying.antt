-- How a contract's marks are written into a deal's part, as a definition. What then stands there is said in Deal. Assumes nothing.
use Rattle.std.specs.Prelude.{ℕ, zero, suc, ◌+◌, ◌%◌, List, length, nat_lt, slice_index_or}
use Rattle.deals.specs.Contract.{pick}
use Rattle.texts.specs.declared.nodes.Node.{Node}
use Rattle.texts.specs.declared.nodes.Node.TheVariants.{Nothing, Pays, Turned, Both, Choice, If, Of, On, When, By, Fixed, Rate, Day, Plus, Minus, Times, Max, Less}
use Rattle.residual.specs.declared.cells.Node.TheVariants as node
use Rattle.residual.specs.Layout.{put_node}

-- the bytes, and the place behind what was written
pub record Laid : Type 0 where
  pub bytes : List ℕ
  pub next : ℕ

abbrev pub written : List ℕ → ℕ → Laid
written s i = record { bytes = s; next = i }

unfoldable pub one_laid : List ℕ → ℕ → Laid
one_laid s i = written (put_node s i node.Nothing) (i + 1)

-- what a mark does, by what the parts under it do
unfoldable pub by_mark : (ℕ → List ℕ → Laid) → ℕ → List ℕ → Node → Laid
by_mark go i s Nothing = one_laid s i
by_mark go i s (Pays k a) = written (put_node s i (node.Pays (k % 65536) a)) (i + 1)
by_mark go i s Turned = go (i + 1) (put_node s i node.Turned)
by_mark go i s Both = go (go (i + 1) s).next (put_node (go (i + 1) s).bytes i (node.Both (go (i + 1) s).next))
by_mark go i s Choice = one_laid s i
by_mark go i s If = one_laid s i
by_mark go i s Of = one_laid s i
by_mark go i s (On d) = go (i + 1) (put_node s i (node.OnDay (d % 4294967296)))
by_mark go i s When = one_laid s i
by_mark go i s (By d) = one_laid s i
by_mark go i s (Fixed a) = one_laid s i
by_mark go i s (Rate k n) = one_laid s i
by_mark go i s Day = one_laid s i
by_mark go i s Plus = one_laid s i
by_mark go i s Minus = one_laid s i
by_mark go i s Times = one_laid s i
by_mark go i s Max = one_laid s i
by_mark go i s Less = one_laid s i

unfoldable pub laid : ℕ → List Node → ℕ → List ℕ → Laid
laid zero ms i s = written s i
laid (suc n) ms i s = pick (nat_lt i (length ms)) (by_mark (λ i' s'. laid n ms i' s') i s (slice_index_or ms i Nothing)) (written s i)
