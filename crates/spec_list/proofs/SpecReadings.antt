-- A spec list that is being read, in numbers, and what is answered of the whole. Assumes nothing.
use mathlib.Core.Path.{◌≡◌, sym, ap, ◌∙◌}
use Prim.Native.Nat.{ℕ, ◌+◌, ◌-◌, ◌<◌, ◌≤◌}
use native.Mathlib.Omega.{arith}
use borrow.Author.Tests.{le-leb, lt-leb}
use lib.ListN.{length}
use Rattle.meaning.specs.Bytes.{Text}
use Rattle.meaning.specs.Limits.{spec_list_bytes}
use Rattle.meaning.specs.Lists.{spec_record, read_specs}
use Rattle.promises.specs.Facts.{records}
use Rattle.promises.proofs.Members.{specs-long}
use Rattle.promises.proofs.Steps.{specs-shrink, list-records}
use Rattle.parse.specs.declared.types.RefSpec.{RefSpec}
use Rattle.parse.specs.Places.{spec_meant}
use Rattle.std.specs.Prelude.{Option, None, Some, Result, Ok, Err}
use Rattle.refusal.specs.declared.Refusal.{Refusal}
use Rattle.refusal.specs.Numbers.{number_of}
use Rattle.list.specs.declared.cursor.Record.{Record}
use Rattle.list.specs.declared.refused.Refused.{Refused}
use Rattle.list.specs.Checked.{Checked, checked, numbered}
use Rattle.spec_list.specs.Group.{SpecTaken, SpecTurned, SpecSays}
use Rattle.list.proofs.Readings.{numbered-ok, numbered-err, Reading, reading-starts, reading-whole, reading-refused, reading-more}

pub specs-start : (op : ℕ) (s : Text) (at : ℕ) → at ≡ 0 → Reading (spec_record op) s at 0
specs-start op s at e = rw e (reading-starts (spec_record op) (specs-shrink op) s)

-- what is told of a record that is numbered
module _ (op : ℕ) (s : Text) (at j : ℕ) (w : Result (Option (Record RefSpec)) Refusal) (says : SpecSays op j s at w) (m : Result (Option (Record RefSpec)) Refused) (em : m ≡ numbered w j) where
  pub spec-some : (o : Option (Record RefSpec)) → m ≡ Ok o → (r : Record RefSpec) → o ≡ Some r → SpecTaken op j s at r.value r.next.at
  spec-some o eo r e = let q = numbered-ok w j (Some r) (sym em ∙ eo ∙ ap (λ (x : Option (Record RefSpec)). Ok x) e) in rw q at says

  pub spec-ended : m ≡ Ok None → length s ≤ at
  spec-ended e = let q = numbered-ok w j None (sym em ∙ e) in rw q at says

  pub spec-err : (x : Refused) → m ≡ Err x → SpecTurned op j s at (number_of x.refusal) × (x.«record» ≡ j)
  spec-err x e = let n = numbered-err w j x (sym em ∙ e) in (rw n.is at says, n.number)

module _ (op : ℕ) (s : Text) (at j : ℕ) (w : Result (Option (Record RefSpec)) Refusal) (says : SpecSays op j s at w) (m : Result (Option (Record RefSpec)) Refused) (em : m ≡ numbered w j) where
  module _ (o : Option (Record RefSpec)) (eo : m ≡ Ok o) (r : Record RefSpec) (e : o ≡ Some r) where
    told : SpecTaken op j s at r.value r.next.at
    told = spec-some op s at j w says m em o eo r e

    -- less of the list is left
    pub specs-less : length s - r.next.at < length s - at
    specs-less = omega (arith, told.on, told.within)

    -- one more spec
    pub specs-more : Reading (spec_record op) s at j → Reading (spec_record op) s r.next.at (j + 1)
    specs-more p = reading-more (spec_record op) (specs-shrink op) s at j p told.here (spec_meant s r.value) r.next.at told.reads told.on told.within

  module _ (p : Reading (spec_record op) s at j) where
    -- at the end all are read
    pub specs-all : m ≡ Ok None → record { refusal = 0; «record» = 0; count = j } ≡ checked (records (spec_record op) 0 s)
    specs-all e = reading-whole (spec_record op) (specs-shrink op) s at j p (spec-ended op s at j w says m em e)

    -- a spec is refused
    pub specs-stop : (x : Refused) → m ≡ Err x → record { refusal = number_of x.refusal; «record» = x.«record»; count = 0 } ≡ checked (records (spec_record op) 0 s)
    specs-stop x e =
        let u = spec-err op s at j w says m em x e in
        rw u.1 (reading-refused (spec_record op) (specs-shrink op) s at j p u.0.here (number_of x.refusal) u.0.reads)

-- the answers of `check_specs`
module _ (op : ℕ) (s : Text) where
  pub specs-no-operation : 1 < op → record { refusal = 18; «record» = 0; count = 0 } ≡ checked (read_specs op s)
  unfolding read_specs
  specs-no-operation h = rw (lt-leb op 1 h)

  pub specs-too-long : op ≤ 1 → spec_list_bytes < length s → record { refusal = 12; «record» = 0; count = 0 } ≡ checked (read_specs op s)
  specs-too-long h k = rw (specs-long op s h k)

  pub specs-are : (r : Checked) → op ≤ 1 → length s ≤ spec_list_bytes → r ≡ checked (records (spec_record op) 0 s) → r ≡ checked (read_specs op s)
  unfolding read_specs
  specs-are r h k e = rw (le-leb op 1 h, list-records spec_list_bytes (spec_record op) s k) e
