-- A text that is taken is not refused, and is taken as one contract.
use Rattle.std.proofs.Common.{◌≡◌, ℕ, true, List, [], ◌∷◌, ◌-◌, get_or, sym, ap, ◌∙◌, is_ok, Ok, Err, Result, refl, subst, inl, inr, arith, MatchResult}
use Rattle.deals.specs.Contract.{Contract}
use Rattle.deals.specs.Promise.{ContractFits}
use Rattle.texts.specs.Nodes.{Holds, nodes_of}
use Rattle.texts.specs.Bounds.{Numeral, InRange, FirstOut, IsWithinLimits, TextTaken, TextRefused, too_long, no_contract, past_limits, out_of_range, PartRefused}
use Rattle.texts.specs.declared.nodes.Tree.{Tree}
use Rattle.texts.specs.declared.reading.TextRefusal.{TextRefusal}
use Rattle.octets.specs.Octets.{field}
use Rattle.mornings.specs.declared.Start.{Start}
use Rattle.replay.specs.declared.days.DayAt.{DayAt}
use Rattle.replay.specs.declared.listing.DealIn.{DealIn}
use Rattle.replay.specs.Days.{nowhere, bytes_of}
use Rattle.replay.specs.Adding.{DealStands}
use Rattle.texts.proofs.OneContract.{one_at_most}
use Rattle.texts.proofs.Ranged.{fits_by_text, parts_within}

never_out : (ns : List Numeral) (p : ℕ) → InRange ns → FirstOut ns p → ⊥
unfolding InRange FirstOut
never_out [] p h g = g
never_out (n ∷ ns) p h (inl g) = omega (arith, h.0, g.0)
never_out (n ∷ ns) p h (inr g) = never_out ns p h.1 g.1

within : (rs cs : ℕ) (x : Contract) → ContractFits rs cs x → IsWithinLimits x
unfolding ContractFits
within rs cs x f = record { few = f.1; flat = f.2; small = parts_within rs cs x f.0 }

pub not_refused : (rs cs : ℕ) (text : List ℕ) (x : Contract) (n p : ℕ) → TextTaken rs cs text x → TextRefused rs cs text n p → ⊥
not_refused rs cs text x n p t (too_long h) = omega (arith, t.short)
not_refused rs cs text x n p t (no_contract h r) = r.none x t.text_of
not_refused rs cs text x n p t (past_limits y h g bad) = bad (within rs cs y (subst (ContractFits rs cs) (one_at_most text y x g t.text_of) t.fits))
not_refused rs cs text x n p t (out_of_range y ns h g ok numbers out) =
    let fits : ContractFits rs cs y = subst (ContractFits rs cs) (one_at_most text y x g t.text_of) t.fits in
    never_out ns p ((fits_by_text rs cs y text ns numbers).1 fits).1 out

-- what the reader of a part says of a text that is taken
pub read_is : (rs cs from : ℕ) (text : List ℕ) (x : Contract) (tree : Tree) (r : Result (Unit {0}) TextRefusal) → TextTaken rs cs text x →
    MatchResult r (λ _. (y : Contract) × TextTaken rs cs text y × Holds tree (nodes_of y)) (λ e. PartRefused rs cs text from e × Holds tree []) → (is_ok r ≡ true) × Holds tree (nodes_of x)
read_is rs cs from text x tree (Ok u) t h = (refl, subst (λ z. Holds tree (nodes_of z)) (one_at_most text x h.0 t.text_of h.1.text_of) h.2)
read_is rs cs from text x tree (Err e) t h = absurd (not_refused rs cs text x _ _ t h.0.1)

-- the same of a deal that stands among the kept bytes
pub stands_read : (st : Start) (kept bytes : List ℕ) (days : List DayAt) (d : DealIn) (x : Contract) (day : DayAt) (tree : Tree) (r : Result (Unit {0}) TextRefusal) → DealStands st kept days d x →
    day ≡ get_or days d.morning nowhere → bytes ≡ bytes_of kept day →
    MatchResult r (λ _. (y : Contract) × TextTaken st.rates st.currencies (field (d.at.text_end - d.at.text_at) bytes d.at.text_at) y × Holds tree (nodes_of y))
    (λ e. PartRefused st.rates st.currencies (field (d.at.text_end - d.at.text_at) bytes d.at.text_at) d.at.text_at e × Holds tree []) → (is_ok r ≡ true) × Holds tree (nodes_of x)
stands_read st kept bytes days d x day tree r stands on is h =
    read_is st.rates st.currencies d.at.text_at (field (d.at.text_end - d.at.text_at) bytes d.at.text_at) x tree r
    (subst (λ s. TextTaken st.rates st.currencies (field (d.at.text_end - d.at.text_at) s d.at.text_at) x) (sym (is ∙ ap (bytes_of kept) on)) stands.text) h
