-- A spec at a place of its list: its questions in order, and what is told of it. Assumes nothing.
use mathlib.Core.Path.{◌≡◌, sym, ap, ◌∙◌}
use mathlib.Core.Option.{none}
use Prim.Native.Nat.{ℕ, ◌+◌, ◌<◌, ◌≤◌}
use native.Mathlib.Omega.{arith}
use borrow.Author.Tests.{lt-ltb, le-ltb}
use lib.ListN.{length, drop}
use Rattle.meaning.specs.Bytes.{Text}
use Rattle.meaning.specs.Limits.{spec_count}
use Rattle.meaning.specs.Spec.{accepted, refused, Spec, read_spec}
use Rattle.meaning.specs.Number as meaning
use Rattle.meaning.specs.Lists.{spec_record}
use Rattle.parse.specs.declared.types.RefSpec.{RefSpec}
use Rattle.parse.specs.Places.{part_at, SidesWithin, spec_meant, parsed}
use Rattle.parse.proofs.Parts.{part_length}
use Rattle.parse.proofs.Answers.{read-refused, read-accepted, read-within}
use Rattle.std.specs.Prelude.{Option, None, Some, Result, Ok, Err}
use Rattle.refusal.specs.declared.Refusal.{Refusal}
use Rattle.refusal.specs.Numbers.{number_of}
use Rattle.list.specs.declared.cursor.Record.{Record}
use Rattle.list.specs.declared.stretch.Stretch.{Stretch}
use Rattle.list.specs.Cursor.{step_at}
use Rattle.spec_list.specs.Group.{shifted, SpecIn, SpecTaken, SpecTurned}
use Rattle.list.proofs.Steps.{Taken, step-taken, step_end, step-refused}
use Rattle.spec_list.proofs.Shifts.{spec-shifted, sides-shifted}

-- as many specs as a list may have are behind it
spec-beyond : (op j : ℕ) (s : Text) → spec_count ≤ j → spec_record op j s ≡ meaning.no 14
unfolding spec_record
spec-beyond op j s h = rw (le-ltb j spec_count h)

module _ (op j : ℕ) (s : Text) (h : j < spec_count) where
  -- it is not well formed
  spec-malformed : meaning.read_text s ≡ meaning.no 13 → spec_record op j s ≡ meaning.no 13
  unfolding spec_record
  spec-malformed e = rw (lt-ltb j spec_count h, e)

  module _ (t rest : Text) (e : meaning.read_text s ≡ meaning.took t rest) where
    -- a question of its own refuses it
    spec-refused : (n : ℕ) → read_spec op t ≡ refused n none → spec_record op j s ≡ meaning.no n
    unfolding spec_record
    spec-refused n f = rw (lt-ltb j spec_count h, e, f)

    -- it is read
    spec-read : (x : Spec) → read_spec op t ≡ accepted x → spec_record op j s ≡ meaning.took x rest
    unfolding spec_record
    spec-read x f = rw (lt-ltb j spec_count h, e, f)

-- the answers of `spec_in`
module _ (op : ℕ) (s : Text) (start len : ℕ) (inside : start + len ≤ length s) (p : Result RefSpec Refusal) (t : Text) (et : t ≡ part_at s start len) (ep : p ≡ parsed op t) where
  same-part : p ≡ parsed op (part_at s start len)
  same-part = ep ∙ ap (parsed op) et

  pub spec-turned : (q : Refusal) → p ≡ Err q → read_spec op (part_at s start len) ≡ refused (number_of q) none
  spec-turned q e = read-refused op (part_at s start len) p same-part q e

  module _ (r : RefSpec) (e : p ≡ Ok r) where
    pub spec-sides : SidesWithin len r
    spec-sides = rw (part_length s start len inside) at (read-within op (part_at s start len) p same-part r e)

    module _ (q : RefSpec) (eq : q ≡ shifted start r) where
      pub spec-means : read_spec op (part_at s start len) ≡ accepted (spec_meant s q)
      spec-means = rw eq (read-accepted op (part_at s start len) p same-part r e ∙ ap (λ (x : Spec). accepted x) (spec-shifted s start len r spec-sides))

      pub spec-within : SidesWithin (length s) q
      spec-within = rw eq (sides-shifted start len (length s) r spec-sides inside)

-- the answers of `next_spec`
module _ (op j : ℕ) (s : Text) (at : ℕ) where
  pub spec-full : at < length s → spec_count ≤ j → SpecTurned op j s at 14
  spec-full h k = record { here = h; reads = spec-beyond op j (drop at s) k }

  module _ (w : Result (Option (Record Stretch)) Refusal) (ew : w ≡ step_at s at) where
    pub spec-none : w ≡ Ok None → length s ≤ at
    spec-none e = step_end s at (sym ew ∙ e)

    pub spec-stop : (x : Refusal) → j < spec_count → w ≡ Err x → SpecTurned op j s at (number_of x)
    spec-stop x h e =
        let t = step-refused s at x (sym ew ∙ e) in
        rw t.is (record { here = t.here; reads = spec-malformed op j (drop at s) h t.reads })

    module _ (o : Option (Record Stretch)) (eo : w ≡ Ok o) (r : Record Stretch) (e : o ≡ Some r) where
      stood : Taken s at r.value.at r.value.len r.next.at
      stood = step-taken s at r (sym ew ∙ eo ∙ ap (λ (x : Option (Record Stretch)). Ok x) e)

      pub spec-inside : r.value.at + r.value.len ≤ length s
      spec-inside = omega (arith, stood.ends, stood.within)

      module _ (h : j < spec_count) (v : Result RefSpec Refusal) (i : SpecIn op s r.value.at r.value.len v) where
        pub spec-there : (q : RefSpec) → v ≡ Ok q → SpecTaken op j s at q r.next.at
        spec-there q ev =
            let t = stood in
            let k : SpecIn op s r.value.at r.value.len (Ok q) = rw ev at i in
            record {
              here = t.here;
              reads = spec-read op j (drop at s) h (part_at s r.value.at r.value.len) (drop r.next.at s) t.reads (spec_meant s q) k.0;
              sides = k.1;
              number = h;
              on = t.on;
              within = t.within;
            }

        pub spec-own : (x : Refusal) → v ≡ Err x → SpecTurned op j s at (number_of x)
        spec-own x ev =
            let t = stood in
            let k : SpecIn op s r.value.at r.value.len (Err x) = rw ev at i in
            record { here = t.here; reads = spec-refused op j (drop at s) h (part_at s r.value.at r.value.len) (drop r.next.at s) t.reads (number_of x) k }
