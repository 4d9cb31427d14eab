use Rattle.octets.proofs.Words.{length_put_word, word_put_same, word_put_apart, word_below}
use Rattle.octets.proofs.words_stand.Goals as goal

pub returns : goal.returns
returns c =
    record {
      writes = λ n s i v h. record { long = length_put_word n s i v h; same = word_put_same n s i v h; apart = λ m j. word_put_apart n s i v m j h };
      reads = word_below;
    }
