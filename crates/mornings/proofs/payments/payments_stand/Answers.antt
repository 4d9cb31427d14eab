use Rattle.mornings.proofs.Paid.{one_more, read_again, bytes_say, bytes_two_sided}
use Rattle.mornings.proofs.payments.payments_stand.Goals as goal

pub returns : goal.returns
returns c = record { more = one_more; again = read_again; says = bytes_say; sides = bytes_two_sided }
