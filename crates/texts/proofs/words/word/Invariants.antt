use Rattle.std.proofs.Common.{◌≡◌, ◌+◌, ◌≤◌, length, take}
use Rattle.std.specs.List.{between}
use Rattle.texts.proofs.words.word.Given as goal

abbrev pub invariant-loop-b : goal.invariant-loop-b
invariant-loop-b l = (l.to ≡ l.at + l.b-index) × (l.to ≤ length l.text) × (between l.at l.to l.text ≡ take l.b-index l.expected)
