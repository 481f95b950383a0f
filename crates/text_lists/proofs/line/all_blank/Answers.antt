-- `text_lists::line::all_blank` meets its contract: each byte is asked.
use Rattle.std.proofs.Common.{◌≡◌, refl, rules, tests}
use Rattle.std.specs.List.{list_all}
use Rattle.std.proofs.lemmas.Iterator.{YieldsList-from_slice}
use Rattle.std.proofs.lemmas.Iterator.Search.{all_from_yields_List}
use Rattle.text.proofs.Scans.{every-all}
use Rattle.text_lists.specs.Line.{blank_byte}
use Rattle.text_lists.proofs.line.all_blank.Goals as goal

pub returns : goal.returns
returns c =
    let e : c.all.result ≡ list_all blank_byte c.args.line.now = all_from_yields_List blank_byte _ _ c.all.result c.all.ensures.ran (YieldsList-from_slice _ c.iter.ensures.rest) (λ x b q k. search (rules, tests)) in
    every-all blank_byte blank_byte (λ x. refl) c.args.line.now _ e
