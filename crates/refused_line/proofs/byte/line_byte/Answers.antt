-- Each kind of line has its own byte.
use Rattle.refused_line.proofs.Lines.{byte-nothing, byte-marked, byte-name, byte-unknown, byte-spec, byte-shown, from-none, from-some, spec-held, unshown-held, spec-at}
use mathlib.Core.Path.{◌∙◌}
use Rattle.refused_line.proofs.byte.line_byte.Goals as goal

pub returns-in_err-spec_byte-in-Fetch : goal.returns-in_err-spec_byte-in-Fetch
returns-in_err-spec_byte-in-Fetch c =
    from-none _ c.in-Fetch.start (spec-at c.args.n _ _ c.classify.ensures _ c.in-Fetch.is) _ c.spec_byte.ensures.1 _
    (spec-held _ _ _ _ c.spec_byte.ensures.0 ∙ byte-spec _ _ _ c.classify.ensures _ c.in-Fetch.is)
    c.in_err-spec_byte-in-Fetch.was _ c.from_residual-in_err-spec_byte-in-Fetch.ensures

pub returns-in_ok-spec_byte-in-Fetch : goal.returns-in_ok-spec_byte-in-Fetch
returns-in_ok-spec_byte-in-Fetch c =
    from-some _ c.in-Fetch.start (spec-at c.args.n _ _ c.classify.ensures _ c.in-Fetch.is) _ c.spec_byte.ensures.1 _
    (spec-held _ _ _ _ c.spec_byte.ensures.0 ∙ byte-spec _ _ _ c.classify.ensures _ c.in-Fetch.is)
    _ c.in_ok-spec_byte-in-Fetch.was

pub returns-in_err-unshown_byte-in-Shown : goal.returns-in_err-unshown_byte-in-Shown
returns-in_err-unshown_byte-in-Shown c =
    from-none _ c.in-Shown.start c.in-Shown.ensures.within _ c.unshown_byte.ensures.1 _
    (unshown-held _ _ _ c.unshown_byte.ensures.0 ∙ byte-shown _ _ _ c.classify.ensures _ c.in-Shown.is)
    c.in_err-unshown_byte-in-Shown.was _ c.from_residual.ensures

pub returns-in_ok-unshown_byte-in-Shown : goal.returns-in_ok-unshown_byte-in-Shown
returns-in_ok-unshown_byte-in-Shown c =
    from-some _ c.in-Shown.start c.in-Shown.ensures.within _ c.unshown_byte.ensures.1 _
    (unshown-held _ _ _ c.unshown_byte.ensures.0 ∙ byte-shown _ _ _ c.classify.ensures _ c.in-Shown.is)
    _ c.in_ok-unshown_byte-in-Shown.was

pub returns-in-Unknown : goal.returns-in-Unknown
returns-in-Unknown c = (byte-unknown _ _ _ c.classify.ensures c.in-Unknown.is _ _ c.known.ensures c.byte_after.ensures.0, c.byte_after.ensures.1)

pub returns-in-Nothing : goal.returns-in-Nothing
returns-in-Nothing c = byte-nothing _ _ _ c.classify.ensures c.in-Nothing.is

pub returns-in-Name : goal.returns-in-Name
returns-in-Name c = byte-name _ _ _ c.classify.ensures _ c.in-Name.is

pub returns-in-Marked : goal.returns-in-Marked
returns-in-Marked c = byte-marked _ _ _ c.classify.ensures c.in-Marked.is
