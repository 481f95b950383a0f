-- What is printed stands at the start of its buffer. Assumes nothing.
use Rattle.std.proofs.Common.{◌≡◌, ℕ, length, take, drop, subst}
use lib.Seq.{take-append_seam}
use Rattle.meaning.specs.Bytes.{Text}
use Rattle.buffer.specs.Splice.{splice}
use Rattle.buffer.proofs.Splices.{splice-start}
use Rattle.stdio.specs.Streams.{Says}
use Rattle.deliveries.proofs.show_first.Goals as goal

taken : (d s out : Text) (k : ℕ) → out ≡ splice d 0 s → k ≡ length s → take k out ≡ s
taken d s out k put many = rw (put, many, splice-start d s) (take-append_seam s (drop (length s) d))

pub returns : goal.returns
returns g c = subst (Says c.say.result _ _) (taken _ _ _ _ c.deliver-size.ensures.0 c.deliver-size.ensures.1) c.say.ensures
