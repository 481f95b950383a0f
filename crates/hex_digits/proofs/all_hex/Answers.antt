-- `hex_digits::all_hex` meets its contract: std's test of a digit is the definition's.
use Rattle.std.proofs.Common.{◌≡◌, rules, tests}
use Rattle.std.specs.Char.{is_ascii_hexdigit}
use Rattle.std.specs.List.{list_all}
use Rattle.std.proofs.lemmas.Iterator.{YieldsList-from_slice}
use Rattle.std.proofs.lemmas.Iterator.Search.{all_from_yields_List}
use Rattle.meaning.specs.Bytes.{hex_digit}
use Rattle.text.proofs.Scans.{every-all}
use Rattle.hex_digits.proofs.Digits.{digit-is}
use Rattle.hex_digits.proofs.all_hex.Goals as goal

pub returns : goal.returns
returns c =
    let e : c.all.result ≡ list_all is_ascii_hexdigit c.args.s.now = all_from_yields_List is_ascii_hexdigit _ _ c.all.result c.all.ensures.ran (YieldsList-from_slice _ c.iter.ensures.rest) (λ x b q k. search (rules, tests)) in
    every-all hex_digit is_ascii_hexdigit digit-is c.args.s.now _ e
