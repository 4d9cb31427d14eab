-- A new deal: its contract stands in its part, and waits for its first day.
use Rattle.std.proofs.Common.{◌≡◌, ℕ, ◌+◌, ◌<◌, ◌≤◌, min, true, List, [], ◌∷◌, length, sym, refl, ap, ◌∙◌, subst, arith}
use Rattle.std.proofs.lemmas.List.{append-nil}
use Rattle.std.proofs.lemmas.Bool.{lt-ltb}
use Rattle.deals.specs.Contract.{Contract}
use Rattle.deals.specs.Promise.{thin, marks, ContractFits}
use Rattle.deals.specs.Residual.{starts}
use Rattle.deals.specs.Shared.{Slot}
use Rattle.deals.specs.Sleep.{wake, row_wake}
use Rattle.texts.specs.declared.nodes.Node.{Node}
use Rattle.texts.specs.Nodes.{nodes_of}
use Rattle.residual.specs.declared.cells.Row.{Row}
use Rattle.residual.specs.Layout.{put_row}
use Rattle.residual.specs.Laying.{laid}
use Rattle.residual.specs.Steps.{State, with_row}
use Rattle.residual.specs.Deal.{Stands, LeftStands, Table, Rows, Holds}
use Rattle.residual.proofs.Laid.{Lays, laid_right}
use Rattle.texts.proofs.Standing.{nodes_length}
use Rattle.residual.proofs.Standing.{row_stands}

pub opened : (s : List ℕ) (ns : List Node) (from : ℕ) (x : Contract) (rs cs : ℕ) → ns ≡ nodes_of x → ContractFits rs cs x → cs ≤ 65536 → thin x ≡ true → from < 65536 → 12288 ≤ length s →
    Holds (put_row (laid 256 ns 0 s).bytes 0 (record { day = from; part = 0; end = (laid 256 ns 0 s).next; above = 0 })) (record { wake = from; rows = 1; used = 0 }) [] (record { entry = 0; way = []; waits = starts from x } ∷ [])
unfolding ContractFits with_row row_wake wake Table Rows
opened s ns from x rs cs is fits few t early long =
    let many : length ns ≡ marks x = ap length is ∙ nodes_length x in
    let l = laid 256 ns 0 s in
    let lays : Lays x 0 s l = laid_right x rs cs ns [] 0 256 s t fits.0 few (record { few = omega (arith, many, fits.1); long = long; here = is ∙ sym (append-nil (nodes_of x)); deep = fits.1 }) in
    let st : State = record { bytes = l.bytes; left = record { rows = 0; used = 0; wake = 65536 }; due = [] } in
    let row : Row = record { day = from; part = 0; end = l.next; above = 0 } in
    let slot : Slot = record { entry = 0; way = []; waits = starts from x } in
    let end : l.next ≡ 0 + marks x = lays.next in
    let stands : Stands l.bytes 0 l.next x = subst (λ z. Stands l.bytes 0 z x) (sym end) lays.stands in
    let least : min 65536 from ≡ from = omega (arith, early) in
    let more =
    row_stands st [] [] row slot (omega (arith, lays.long)) (omega arith) (omega arith) early (omega arith) (omega (arith, end, fits.1)) (omega arith) refl refl
    (refl, early, stands, omega (arith, end, fits.1)) (record { rows_are = refl; used_are = refl; wake_is = refl; table = tt; inside = tt; rows = tt }) in
    record {
      rows_are = refl;
      wake_is = sym (rw (lt-ltb from 65536 early) refl);
      few = omega arith;
      stands = λ lt. subst (λ z. LeftStands (put_row l.bytes 0 row) (record { wake = z; rows = 1; used = 0 }) [] (slot ∷ [])) least more;
    }
