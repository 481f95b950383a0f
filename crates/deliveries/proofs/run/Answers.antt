-- What was read is the whole input, or both are too long. Assumes nothing.
use Rattle.std.proofs.Common.{◌≤◌, ◌<◌, length, take, rules}
use Rattle.std.specs.Io.KnownBytes.{Consumes, IsAtEnd}
use Rattle.std.proofs.lemmas.Result.{IfOk-at_ok, on_ok_weaker}
use Rattle.deliveries.proofs.Inputs.{whole-written}
use Rattle.deliveries.proofs.run.Goals as goal

pub returns : goal.returns
returns g c =
    let read = c.in_ok-n.ensures.value in
    let buffer = c.read_input.new.buffer in
    let within = IfOk-at_ok (λ n. n ≤ length buffer) read c.read_input.ensures.within in
    let bytes = IfOk-at_ok (λ n. Consumes (g.R.Read.remaining c.args.from.now) (g.R.Read.remaining c.read_input.new.from) (take n buffer)) read c.read_input.ensures.bytes in
    let end = IfOk-at_ok (λ n. n < length buffer → IsAtEnd (g.R.Read.remaining c.read_input.new.from)) read c.read_input.ensures.end in
    rw (← c.inspect_err-2.ensures.value) (on_ok_weaker _ (whole-written _ _ _ _ buffer c.in_ok-n.n (search rules) within bytes end) c.show_first.ensures)
