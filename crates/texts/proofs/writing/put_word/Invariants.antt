use Rattle.std.proofs.Common.{take}
use Rattle.texts.specs.Spelling.{Put}
use Rattle.texts.proofs.writing.put_word.Given as goal

abbrev pub invariant-loop-b : goal.invariant-loop-b
invariant-loop-b l = Put l.initial.out l.out l.to (take l.b-index l.word) l.next
