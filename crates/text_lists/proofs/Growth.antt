-- A list that grows in its buffer, line by line. Assumes nothing.
use Prim.Native.Nat.{ℕ, zero, suc, ◌+◌, ◌-◌, ◌≤◌}
use mathlib.Core.Path.{◌≡◌, refl, sym, ap, ◌∙◌}
use mathlib.Core.Bool.{Bool, true, false, cond}
use mathlib.Core.List.{List, [], ◌∷◌, append-nil}
use native.Mathlib.Omega.{arith}
use mir.Val.{Fits}
use mir.Syntax.{w64}
use lib.Dec.{eqb}
use lib.ListN.{length, take, drop, get_or}
use lib.Seq.{take_at, length-take-le}
use Rattle.meaning.specs.Bytes.{Text}
use Rattle.meaning.specs.Limits.{spec_list_bytes, item_list_bytes, program_bytes}
use Rattle.meaning.specs.Number.{text_bytes, record_bytes}
use Rattle.buffer.specs.Splice.{splice}
use Rattle.buffer.proofs.Splices.{splice-none, splice-start}
use Rattle.text.proofs.Rests.{rest_part}
use Rattle.percent.proofs.Walks.{text-short}
use Rattle.print.specs.Unshown.{Unshown, stands, fault, text_of, unshown}
use Rattle.std.specs.Prelude.{Result, Ok, Err}
use Rattle.refusal.specs.declared.Refusal.{Refusal}
use Rattle.refusal.specs.Numbers.{number_of, number_or0}
use Rattle.refusal.proofs.Numbers.{number_of-positive}
use Rattle.percent.specs.declared.Fault.{Fault}
use Rattle.percent.specs.Decode.{measured, Decodes}
use Rattle.text_lists.specs.declared.line.Line.{Line}
use Rattle.text_lists.specs.declared.line.Line.TheVariants.{Nothing, Fetch, Name, Shown, Marked, Unknown}
use Rattle.text_lists.specs.declared.line.Line.TheVariants as kind
use Rattle.text_lists.specs.Line.{Held, nothing, marked, unknown, fetch, push, name, shown, held_in, TellsLine}
use Rattle.text_lists.specs.declared.Lists.{Lists}
use Rattle.text_lists.specs.declared.reason.Reason.{Reason}
use Rattle.text_lists.specs.declared.reason.Reason.TheVariants.{Question, Push}
use Rattle.text_lists.specs.declared.reason.Reason.TheVariants as reason
use Rattle.text_lists.specs.Reasons.{reason_number}
use Rattle.text_lists.specs.Gather.{spec_reason, name_reason, fault_reason, reason_of, specs_in, names_in}
use Rattle.text_lists.specs.Growing.{Room, reason_in, lists_after, unless_refused, Grows, SpecAdds, NameAdds, ShownAdds, LineAdds}
use Rattle.text_lists.proofs.Reasons.{spec-passes, name-passes}

-- what is refused adds nothing
pub refused_none : (n : ℕ) (l : List Text) → (n ≡ 0 → ⊥) → unless_refused n l ≡ []
refused_none zero l h = absurd (h refl)
refused_none (suc n) l h = refl

none-new : (n : ℕ) → unless_refused n [] ≡ []
none-new zero = refl
none-new (suc n) = refl

-- the bytes of no text and of one
no_bytes : record_bytes [] ≡ []
unfolding record_bytes
no_bytes = refl

one-bytes : (t : Text) → record_bytes (t ∷ []) ≡ text_bytes t
unfolding record_bytes
one-bytes t = append-nil (text_bytes t)

-- a list stays
stays : (limit count size : ℕ) (d : Text) → size ≤ limit → Grows limit [] count size d count size d
stays limit count size d h = record {
  count-is = omega arith;
  size_is = rw no_bytes (omega arith);
  small = h;
  puts = rw no_bytes (sym (splice-none d size));
}

-- a list has one text more
more : (limit : ℕ) (t : Text) (count size : ℕ) (d e : Text) (end : ℕ) → size + length (text_bytes t) ≤ limit → e ≡ splice d size (text_bytes t) → end ≡ size + length (text_bytes t) → Grows limit (t ∷ []) count size d (count + 1) end e
more limit t count size d e end h p q = record {
  count-is = refl;
  size_is = rw (one-bytes t) q;
  small = omega arith;
  puts = rw (one-bytes t) p;
}

-- nothing is new
stays-new : (limit n : ℕ) (l : List Text) → unless_refused n l ≡ [] → (count size count_after size_after : ℕ) (d : Text) → count_after ≡ count → size_after ≡ size → size ≤ limit → Grows limit (unless_refused n l) count size d count_after size_after d
stays-new limit n l e count size count_after size_after d p q h = rw (e, p, q) (stays limit count size d h)

-- the number of a question that was asked
asked-ok : (p : Result (Unit {0}) Refusal) (u : Unit {0}) → p ≡ Ok u → number_or0 p ≡ 0
asked-ok p u e = rw e

asked-err : (p : Result (Unit {0}) Refusal) (q : Refusal) → p ≡ Err q → number_or0 p ≡ number_of q
asked-err p q e = rw e

some-number : (q : Refusal) → number_of q ≡ 0 → ⊥
some-number q e = omega (arith, number_of-positive q)

-- a spec, for the question that was asked
module _ (t : Text) (so : Lists) (d : Text) (p : Result (Unit {0}) Refusal) (ep : number_or0 p ≡ spec_reason so.specs so.specs_size t) (room : Room spec_list_bytes so.specs_size d) where
  pub spec-refused : (q : Refusal) → p ≡ Err q → (r : Reason) → r ≡ Question q → SpecAdds t so (Err r) d d
  spec-refused q f r e =
      let n : number_of q ≡ spec_reason so.specs so.specs_size t = sym (asked-err p q f) ∙ ep in
      rw e (record {
        reason-is = n;
        grows = stays-new spec_list_bytes (number_of q) (t ∷ []) (refused_none (number_of q) (t ∷ []) (some-number q)) so.specs so.specs_size so.specs so.specs_size d refl refl room.small;
        names-stay = refl;
        bytes-stay = refl;
      })

  module _ (u : Unit {0}) (f : p ≡ Ok u) where
    spec-asked : spec_reason so.specs so.specs_size t ≡ 0
    spec-asked = sym ep ∙ asked-ok p u f

    pub spec-room : so.specs_size + length (text_bytes t) ≤ length d
    spec-room = omega (arith, (spec-passes so.specs so.specs_size t spec-asked).fits, room.long)

    pub spec-counts : Fits w64 (so.specs + 1)
    spec-counts = omega (arith, (spec-passes so.specs so.specs_size t spec-asked).few)

    pub spec-added : (e : Text) (end : ℕ) → e ≡ splice d so.specs_size (text_bytes t) → end ≡ so.specs_size + length (text_bytes t) → SpecAdds t so (Ok (record { specs = so.specs + 1; specs_size = end; names = so.names; names_size = so.names_size })) d e
    spec-added e end p q = record {
      reason-is = sym spec-asked;
      grows = more spec_list_bytes t so.specs so.specs_size d e end (spec-passes so.specs so.specs_size t spec-asked).fits p q;
      names-stay = refl;
      bytes-stay = refl;
    }

-- a name, for the question that was asked
module _ (t : Text) (so : Lists) (d : Text) (p : Result (Unit {0}) Refusal) (ep : number_or0 p ≡ name_reason so.names so.names_size t) (room : Room item_list_bytes so.names_size d) where
  pub name-refused : (q : Refusal) → p ≡ Err q → (r : Reason) → r ≡ Question q → NameAdds t so (Err r) d d
  name-refused q f r e =
      let n : number_of q ≡ name_reason so.names so.names_size t = sym (asked-err p q f) ∙ ep in
      rw e (record {
        reason-is = n;
        grows = stays-new item_list_bytes (number_of q) (t ∷ []) (refused_none (number_of q) (t ∷ []) (some-number q)) so.names so.names_size so.names so.names_size d refl refl room.small;
        specs-stay = refl;
        bytes-stay = refl;
      })

  module _ (u : Unit {0}) (f : p ≡ Ok u) where
    name-asked : name_reason so.names so.names_size t ≡ 0
    name-asked = sym ep ∙ asked-ok p u f

    pub name-room : so.names_size + length (text_bytes t) ≤ length d
    name-room = omega (arith, (name-passes so.names so.names_size t name-asked).fits, room.long)

    pub name-counts : Fits w64 (so.names + 1)
    name-counts = omega (arith, (name-passes so.names so.names_size t name-asked).few)

    pub name-added : (e : Text) (end : ℕ) → e ≡ splice d so.names_size (text_bytes t) → end ≡ so.names_size + length (text_bytes t) → NameAdds t so (Ok (record { specs = so.specs; specs_size = so.specs_size; names = so.names + 1; names_size = end })) d e
    name-added e end p q = record {
      reason-is = sym name-asked;
      grows = more item_list_bytes t so.names so.names_size d e end (name-passes so.names so.names_size t name-asked).fits p q;
      specs-stay = refl;
      bytes-stay = refl;
    }

pub fault-refuses : (u : Text) (k : ℕ) → fault_reason u k ≡ 0 → ⊥
fault-refuses u zero e = omega arith
fault-refuses u (suc k) e = go (eqb 37 (get_or u (suc k) 0)) e
  where
    go : (b : Bool) → ◌≡◌ {A = ℕ} (cond b 105 106) 0 → ⊥
    go true z = omega arith
    go false z = omega arith

-- a name as a listing shows it, from what was decoded
module _ (u : Text) (m : Result ℕ Fault) (entry exit : Text) (decodes : Decodes (unshown u) entry exit m) (so : Lists) (d : Text) where
  decoded : (r : Unshown) (n : ℕ) → m ≡ measured r → m ≡ Ok n → exit ≡ splice entry 0 (text_of r) → r ≡ stands (take n exit)
  decoded (stands t) n e f p = let q : length t ≡ n = cc in ap stands (sym (rw (p, splice-start entry t, ← q) (take_at t (drop (length t) entry) (length t) refl)))
  decoded (fault k) n e f p = cc

  pub shown-added : (n : ℕ) → m ≡ Ok n → (r : Result Lists Reason) (e : Text) → NameAdds (take n exit) so r d e → ShownAdds u so r d e
  shown-added n f r e adds = rw (decoded (unshown u) n decodes.tells f decodes.puts) adds

  faulty : (r : Unshown) (k : Fault) → m ≡ measured r → m ≡ Err k → r ≡ fault k.at
  faulty (stands t) k e f = cc
  faulty (fault j) k e f = let q : record { at = j } ≡ k = cc in ap fault (ap (λ (x : Fault). x.at) q)

  pub shown-refused : (k : Fault) → m ≡ Err k → (q : Reason) → reason_number q ≡ fault_reason u k.at → Room item_list_bytes so.names_size d → ShownAdds u so (Err q) d d
  shown-refused k f q en room = rw (faulty (unshown u) k decodes.tells f) (record {
    reason-is = en;
    grows = stays-new item_list_bytes (reason_number q) [] (none-new (reason_number q)) so.names so.names_size so.names so.names_size d refl refl room.small;
    specs-stay = refl;
    bytes-stay = refl;
  })

-- it is no longer than what shows it
pub shown-room : (u : Text) (m : Result ℕ Fault) (entry exit : Text) → Decodes (unshown u) entry exit m → (n : ℕ) → m ≡ Ok n → length u ≤ program_bytes → length exit ≡ program_bytes → n ≤ length exit
shown-room u m entry exit decodes n f h l = sizes (unshown u) decodes.tells (text-short u)
  where
    sizes : (r : Unshown) → m ≡ measured r → length (text_of r) ≤ length u → n ≤ length exit
    sizes (stands t) e s = let q : length t ≡ n = cc in omega arith
    sizes (fault k) e s = cc

-- the first bytes of a buffer are no more than it has
pub first_fits : (n : ℕ) (b : Text) → n ≤ length b → length b ≤ program_bytes → length (take n b) ≤ program_bytes
first_fits n b h l = omega (arith, length-take-le n b h)

-- what a line holds, from the answer about it
module _ (line : Text) (a : Line) (tells : TellsLine line a) (so : Lists) (d₁ d₂ : Text) (room₁ : Room spec_list_bytes so.specs_size d₁) (room₂ : Room item_list_bytes so.names_size d₂) where
  -- a line that adds nothing, for a reason or for none
  stays-both : (h : Held) (r : Result Lists Reason) → lists_after so r ≡ so → specs_in h ≡ [] → names_in h ≡ [] → reason_in r ≡ reason_of so.specs so.specs_size so.names so.names_size h → LineAdds h so r d₁ d₂ d₁ d₂
  stays-both h r f p q e = record {
    reason-is = e;
    specs-grow = rw (f, p) (stays-new spec_list_bytes (reason_in r) [] (none-new (reason_in r)) so.specs so.specs_size so.specs so.specs_size d₁ refl refl room₁.small);
    names-grow = rw (f, q) (stays-new item_list_bytes (reason_in r) [] (none-new (reason_in r)) so.names so.names_size so.names so.names_size d₂ refl refl room₂.small);
  }

  pub line-nothing : a ≡ Nothing → LineAdds (held_in line) so (Ok so) d₁ d₂ d₁ d₂
  line-nothing e = let m : nothing ≡ held_in line = rw e at tells.means in rw (← m) (stays-both nothing (Ok so) refl refl refl refl)

  pub line-unknown : a ≡ Unknown → LineAdds (held_in line) so (Err reason.Unknown) d₁ d₂ d₁ d₂
  line-unknown e = let m : unknown ≡ held_in line = rw e at tells.means in rw (← m) (stays-both unknown (Err reason.Unknown) refl refl refl refl)

  pub line_marked : a ≡ Marked → LineAdds (held_in line) so (Err reason.Marked) d₁ d₂ d₁ d₂
  line_marked e = let m : marked ≡ held_in line = rw e at tells.means in rw (← m) (stays-both marked (Err reason.Marked) refl refl refl refl)

  module _ (at : ℕ) where
    pub line-push : a ≡ kind.Push at → LineAdds (held_in line) so (Err Push) d₁ d₂ d₁ d₂
    line-push e = let m : push (drop at line) ≡ held_in line = rw e at tells.means in rw (← m) (stays-both (push (drop at line)) (Err Push) refl refl refl refl)

    module _ (r : Result Lists Reason) where
      pub line-fetch : a ≡ Fetch at → (e : Text) → SpecAdds (take (length line - at) (drop at line)) so r d₁ e → LineAdds (held_in line) so r d₁ d₂ e d₂
      line-fetch f e adds =
          let m : fetch (drop at line) ≡ held_in line = rw f at tells.means in
          let x : SpecAdds (drop at line) so r d₁ e = rw (rest_part line at) at adds in
          rw (← m) (record {
            reason-is = x.reason-is;
            specs-grow = x.grows;
            names-grow = stays-new item_list_bytes (reason_in r) [] (none-new (reason_in r)) so.names so.names_size (lists_after so r).names (lists_after so r).names_size d₂ x.names-stay x.bytes-stay room₂.small;
          })

      pub line-name : a ≡ Name at → (e : Text) → NameAdds (take (length line - at) (drop at line)) so r d₂ e → LineAdds (held_in line) so r d₁ d₂ d₁ e
      line-name f e adds =
          let m : name (drop at line) ≡ held_in line = rw f at tells.means in
          let x : NameAdds (drop at line) so r d₂ e = rw (rest_part line at) at adds in
          rw (← m) (record {
            reason-is = x.reason-is;
            specs-grow = stays-new spec_list_bytes (reason_in r) [] (none-new (reason_in r)) so.specs so.specs_size (lists_after so r).specs (lists_after so r).specs_size d₁ x.specs-stay x.bytes-stay room₁.small;
            names-grow = x.grows;
          })

      pub line-shown : a ≡ Shown at → (e : Text) → ShownAdds (take (length line - at) (drop at line)) so r d₂ e → LineAdds (held_in line) so r d₁ d₂ d₁ e
      line-shown f e adds =
          let m : shown (drop at line) ≡ held_in line = rw f at tells.means in
          let x : ShownAdds (drop at line) so r d₂ e = rw (rest_part line at) at adds in
          rw (← m) (record {
            reason-is = x.reason-is;
            specs-grow = stays-new spec_list_bytes (reason_in r) [] (none-new (reason_in r)) so.specs so.specs_size (lists_after so r).specs (lists_after so r).specs_size d₁ x.specs-stay x.bytes-stay room₁.small;
            names-grow = x.grows;
          })
