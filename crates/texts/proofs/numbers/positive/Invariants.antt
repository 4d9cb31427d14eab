use Rattle.std.proofs.Common.{◌≡◌, ◌-◌, ◌≤◌, true, length}
use Rattle.std.specs.List.{between}
use Rattle.texts.specs.Text.{digits, spelt}
use Rattle.texts.specs.Reading.{capped}
use Rattle.texts.proofs.numbers.positive.Given as goal

abbrev pub invariant-loop-d : goal.invariant-loop-d
invariant-loop-d l =
    (l.at ≤ l.to) × (l.to ≤ length l.text) × (digits (between l.at l.to l.text) ≡ true) × (l.value ≡ capped (spelt 0 (between l.at l.to l.text)))

abbrev pub decreases-loop-d : goal.decreases-loop-d
decreases-loop-d l = length l.initial.text - l.to
