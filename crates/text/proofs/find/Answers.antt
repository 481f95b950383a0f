-- `text::find` meets its contract: the chain finds the first place, if one is before the end.
use Rattle.std.proofs.Common.{◌≡◌, rules, tests, nat_eq, position}
use Rattle.std.proofs.lemmas.Iterator.{YieldsList-from_slice}
use Rattle.std.proofs.lemmas.Iterator.Search.{position_from_yields_List}
use Rattle.text.proofs.Scans.{found}
use Rattle.text.proofs.find.Goals as goal

pub returns : goal.returns
returns c =
    let e : c.position.result ≡ position (nat_eq c.args.b) c.args.s.now = position_from_yields_List (nat_eq c.args.b) _ _ c.position.result c.position.ensures.ran (YieldsList-from_slice _ c.iter.ensures.rest) (λ x b q k. search (rules, tests)) in
    found c.args.b c.args.s.now _ e
