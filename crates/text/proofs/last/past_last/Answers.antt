use Rattle.std.proofs.Common.{◌∙◌, sym, arith}
use Rattle.text.proofs.Lasts.{last_none, last-at, last-before}
use Rattle.text.proofs.last.past_last.Goals as goal

pub loop-front-preserved : goal.loop-front-preserved
loop-front-preserved c =
    let parts = c.in-Some.ensures.cases in (
      last-before c.args.b c.loop-front.rest.now _ _ _ parts.0 parts.1 (sym c.is_among.ensures ∙ c.if-is_among.false) ∙ c.loop-front.invariant.0,
      omega arith,
    )

pub returns-in_err-last_place : goal.returns-in_err-last_place
returns-in_err-last_place c = rw c.from_residual.ensures (sym c.loop-front.invariant.0 ∙ last_none c.args.b c.loop-front.rest.now c.in_err-last_place.ensures)

pub returns : goal.returns
returns c =
    let here = c.in_ok-last_place in (
      last-at c.args.b c.loop-front.rest.now here.field-0 here.ensures.0 here.ensures.1 here.ensures.2 ∙ c.loop-front.invariant.0,
      omega arith,
      omega (arith, here.ensures.0),
    )
