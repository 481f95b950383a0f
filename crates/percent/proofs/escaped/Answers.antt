-- The higher digit counts sixteen times. Assumes nothing.
use mathlib.Core.Path.{◌∙◌}
use borrow.Author.Rules.{rules}
use Rattle.percent.proofs.Steps.{digit-small, byte-no-high, byte-no-low, byte-both}
use Rattle.percent.proofs.escaped.Goals as goal

pub returns-in_err-high : goal.returns-in_err-high
returns-in_err-high c = c.from_residual.ensures ∙ search (byte-no-high, c.in_err-high.was)

pub returns-in_err-low : goal.returns-in_err-low
returns-in_err-low c = c.from_residual-in_err-low.ensures ∙ search (byte-no-low, c.in_ok-high.was, c.in_err-low.was)

pub overflow_mul-result : goal.overflow_mul-result
overflow_mul-result c = let h = digit-small _ _ _ c.digit_value.ensures c.in_ok-high.was in search rules

pub overflow_add-result : goal.overflow_add-result
overflow_add-result c =
    let h = digit-small _ _ _ c.digit_value.ensures c.in_ok-high.was in
    let l = digit-small _ _ _ c.digit_value-2.ensures c.in_ok-low.was in
    search rules

pub returns : goal.returns
returns c = search (byte-both, c.in_ok-high.was, c.in_ok-low.was)
