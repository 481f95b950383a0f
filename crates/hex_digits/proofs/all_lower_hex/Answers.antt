-- `hex_digits::all_lower_hex` meets its contract: each byte is asked.
use Rattle.std.proofs.Common.{◌≡◌, refl, rules, tests}
use Rattle.std.specs.List.{list_all}
use Rattle.std.proofs.lemmas.Iterator.{YieldsList-from_slice}
use Rattle.std.proofs.lemmas.Iterator.Search.{all_from_yields_List}
use Rattle.meaning.specs.Bytes.{lower_hex_digit}
use Rattle.text.proofs.Scans.{every-all}
use Rattle.hex_digits.proofs.all_lower_hex.Goals as goal

pub returns : goal.returns
returns c =
    let e : c.all.result ≡ list_all lower_hex_digit c.args.s.now = all_from_yields_List lower_hex_digit _ _ c.all.result c.all.ensures.ran (YieldsList-from_slice _ c.iter.ensures.rest) (λ x b q k. search (rules, tests)) in
    every-all lower_hex_digit lower_hex_digit (λ x. refl) c.args.s.now _ e
