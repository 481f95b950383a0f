-- `expand::Yield::size` meets its contract: the number of a text comes before the bytes that it counts, and has three at most.
use native.Mathlib.Omega.{arith}
use Rattle.number.proofs.Bytes.{bytes-few}
use Rattle.number.proofs.Texts.{text-size}
use Rattle.expand.proofs.Lists.{size-nothing, size-one}
use Rattle.expand.proofs.Yield.size.Goals as goal

pub overflow_add-result : goal.overflow_add-result
overflow_add-result c = omega (arith, bytes-few c.side_size-n.result)

pub returns-in-Nothing : goal.returns-in-Nothing
returns-in-Nothing c = search size-nothing

pub returns-in-One : goal.returns-in-One
returns-in-One c = search (size-one, text-size)
