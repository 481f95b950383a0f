-- The false variants of document 02, W13, are refuted, each by a small example. Assumes nothing.
use Prim.Native.Nat.{ℕ, ◌+◌, ◌/◌, ◌≤◌}
use native.Mathlib.Omega.{arith}
use mathlib.Core.Path.{◌≡◌, refl, sym, ap, ◌∙◌}
use mathlib.Core.Logic.{◌↔◌, ◌⊎◌, inl, inr}
use mathlib.Core.Bool.{true, false, false≢true}
use mathlib.Core.List.{List, [], ◌∷◌, ◌++◌}
use mathlib.Core.Option.{Option, none, some}
use lib.Dec.{lit≤, lit<}
use lib.ListN.{length, replicate}
use Rattle.meaning.specs.Bytes.{Text, bytes, byte, colon, In, here}
use Rattle.meaning.specs.Limits.{spec_bytes}
use Rattle.meaning.specs.Spec.{Answer, accepted, refused, Normal, Force, Spec, read_spec}
use Rattle.meaning.specs.Instruction.{instruction, canonical_text}
use Rattle.meaning.specs.Rows.{Row}
use Rattle.meaning.specs.Entries.{to_bstring}
use Rattle.meaning.specs.Everything.{everything}
use Rattle.promises.specs.Accepted.{AcceptedSpec}
use Rattle.promises.specs.Terms.{MetOne}
use Rattle.promises.specs.KeyCalls.{TwoTold}
use Rattle.promises.specs.KeyVariants.{KeysAcrossOperations, KeysOfEqualSpecs, KeysOfAnySpecs, KeysWithoutForce, SameKeysInPush, SameKeysInAnyPlace, TellsApart, ApartIsEnough, TogetherIsEnough, ReadBackOfAnyLength, KeysFit, KeysWithinTwo, ReadBackOfAnySource, ReadBackIsAccepted, NoPlusReadsBack, ReadBackIsTheSame, KeysToldThoughRefused, KeysToldOfBuffer, FalseKeyVariants, KeyCallsMet}
use Rattle.promises.proofs.Laws.{in_left, in-cons}
use Rattle.promises.proofs.Keys.{every-accepted-has-key}
use Rattle.promises.proofs.Refusals.{refused-accepted}
use Rattle.promises.proofs.Accepted.{read-is-accepted}
use Rattle.promises.proofs.Plain.{spec_is}
use Rattle.promises.proofs.CallVariants.{writing, writing-met, short_of, short-met, only}
use Rattle.promises.proofs.Writing.{two_sided}

-- an absent side is not there
some-none : {t : Text} → some t ≡ none → ⊥
some-none e = let z : ◌≡◌ {A = ℕ} 0 1 = cc in omega arith

-- Equal keys

-- `a:b` in fetch and in push
across-operations : KeysAcrossOperations → ⊥
unfolding everything
across-operations f =
    let s = two_sided Normal (bytes "a") (bytes "b") in
    let e = f 0 1 (bytes "a:b") (bytes "a:b") s s refl refl refl in
    let z : ◌≡◌ {A = ℕ} 0 1 = cc in omega arith

-- `a` and `a:a` in push
equal-specs : KeysOfEqualSpecs → ⊥
unfolding everything
equal-specs f =
    let e = f 1 (bytes "a") (bytes "a:a") (only (bytes "a")) (two_sided Normal (bytes "a") (bytes "a")) (record { first = refl; second = refl }) refl in
    some-none (sym (ap (λ (s : Spec). s.destination) e))

-- the source `+a` without force, which no text gives, and the source `a` with force
some-empty : {x : ℕ} {t : Text} → some (x ∷ t) ≡ some [] → ⊥
some-empty e = let z : ◌≡◌ {A = ℕ} 0 1 = cc in omega arith

plus-source : AcceptedSpec 0 (two_sided Normal (bytes "+a") (bytes "b"))
unfolding everything
plus-source =
    record {
      operation = lit≤ tt;
      fetch-source = λ e. refl;
      negative-source = λ e. refl;
      negative-alone = λ e. absurd (false≢true e);
      source-filled = some-empty;
      destination-filled = some-empty;
      source-star = refl;
      destination-star = refl;
      both-stars = λ e. refl;
      lone-star = λ e. absurd (some-none e);
      source-passes = refl;
      destination-passes = refl;
    }

any-specs : KeysOfAnySpecs → ⊥
unfolding everything
any-specs f =
    let e = f 0 (two_sided Normal (bytes "+a") (bytes "b")) (two_sided Force (bytes "a") (bytes "b")) plus-source (read-is-accepted 0 (bytes "+a:b") (two_sided Force (bytes "a") (bytes "b")) refl) refl in
    let z : false ≡ true = cc in false≢true z

-- `a:b` and `+a:b` in fetch
without-force : KeysWithoutForce → ⊥
unfolding everything
without-force f =
    let e = (f 0 (bytes "a:b") (bytes "+a:b") (two_sided Normal (bytes "a") (bytes "b")) (two_sided Force (bytes "a") (bytes "b")) (record { first = refl; second = refl })).1 refl in
    omega (arith, ap (λ (t : Text). length t) e)

-- the destination of the first row
abbrev first_destination : List Row → Option Text
first_destination [] = none
first_destination (r ∷ l) = r.destination

-- push `a` and `a:a` on the name `refs/heads/a`: a row without destination, and one with it
in-push : SameKeysInPush → ⊥
unfolding everything
in-push f = some-none (sym (ap first_destination (f (bytes "a") (bytes "a:a") (only (bytes "a")) (two_sided Normal (bytes "a") (bytes "a")) (bytes "refs/heads/a" ∷ []) (record { first = refl; second = refl }) refl)))

-- `a`, and `a` twice, have the same keys
once-twice : (k : Text) → In k (bytes "a" ∷ []) ↔ In k (bytes "a" ∷ bytes "a" ∷ [])
once-twice k = ((λ m. in_left (bytes "a" ∷ []) m), (λ m. go (in-cons m)))
  where
    go : (k ≡ bytes "a") ⊎ In k (bytes "a" ∷ []) → In k (bytes "a" ∷ [])
    go (inl q) = rw q here
    go (inr m) = m

in-any-place : SameKeysInAnyPlace → ⊥
unfolding everything
in-any-place f =
    let s = only (bytes "a") in
    let e = f (1 ∷ bytes "a") (1 ∷ 97 ∷ 1 ∷ bytes "a") (s ∷ []) (s ∷ s ∷ []) (bytes "a" ∷ []) refl refl once-twice in
    omega (arith, ap (λ (l : List Row). length l) e)

-- One direction alone

-- the text as it was spelt is the same only of the same spec
spelt-apart : TellsApart (λ op t. t)
spelt-apart op t u s r h q =
    let w : accepted s ≡ accepted r = sym h.first ∙ ap (read_spec op) q ∙ h.second in
    let z : s ≡ r = cc in
    ap (instruction op) z

-- but push `a` and `a:a` have one instruction
apart-enough : ApartIsEnough → ⊥
unfolding everything
apart-enough f =
    let e = f (λ op t. t) spelt-apart 1 (bytes "a") (bytes "a:a") (only (bytes "a")) (two_sided Normal (bytes "a") (bytes "a")) (record { first = refl; second = refl }) refl in
    omega (arith, ap (λ (t : Text). length t) e)

-- one text for all is the same of all, also of `a` and `b`
together-enough : TogetherIsEnough → ⊥
unfolding everything
together-enough f =
    let e = f (λ op t. []) (λ op t u s r h q. refl) 0 (bytes "a") (bytes "b") (only (bytes "a")) (only (bytes "b")) (record { first = refl; second = refl }) refl in
    let z : ◌≡◌ {A = ℕ} 97 98 = cc in omega arith

-- Reading back

-- a push of so many letters that its key is longer than a spec may be
abbrev long : Text
long = replicate (spec_bytes / 2) (byte "a")

long-read : read_spec 1 long ≡ accepted (only long)
unfolding everything
long-read = refl

any-length : ReadBackOfAnyLength → ⊥
unfolding everything
any-length f = refused-accepted (f 1 long (only long) long-read refl)

keys-fit : KeysFit → ⊥
unfolding everything
keys-fit f = let h : length (canonical_text 1 (only long)) ≤ spec_bytes = f 1 long (only long) long-read in omega arith

-- a push of as many letters as a spec may have
abbrev longest : Text
longest = replicate spec_bytes (byte "a")

longest-read : read_spec 1 longest ≡ accepted (only longest)
unfolding everything
longest-read = refl

within-two : KeysWithinTwo → ⊥
unfolding everything
within-two f = let h : length (canonical_text 1 (only longest)) ≤ spec_bytes + spec_bytes = f 1 longest (only longest) longest-read in omega arith

-- `++a`, whose key is read as only `a`
abbrev plus_a : Spec
plus_a = spec_is Force (some (bytes "+a")) none

any-source : ReadBackOfAnySource → ⊥
unfolding everything
any-source f =
    let e = f 0 (bytes "++a") plus_a refl (lit≤ tt) in
    let z : ◌≡◌ {A = ℕ} 97 43 = cc in omega arith

-- `++.a`, whose key is refused
is-accepted : ReadBackIsAccepted → ⊥
unfolding everything
is-accepted f = refused-accepted (f 0 (bytes "++.a") (spec_is Force (some (bytes "+.a")) none) refl (lit≤ tt)).1

-- `++a:b`, which is read back
no_plus_lem : NoPlusReadsBack → ⊥
unfolding everything
no_plus_lem f = f 0 (bytes "++a:b") (bytes "+a") (two_sided Force (bytes "+a") (bytes "b")) refl refl refl refl

-- the destination of a spec that is accepted
abbrev destination_in : Answer Spec → Option Text
destination_in (accepted s) = s.destination
destination_in (refused n r) = none

-- `a` in push, whose key is `a:a`
is-the-same : ReadBackIsTheSame → ⊥
unfolding everything
is-the-same f = some-none (ap destination_in (f 1 (bytes "a") (only (bytes "a")) refl (lit≤ tt) refl))

-- Calls

-- `a` and `b`, and no room for either
though-refused : KeysToldThoughRefused → ⊥
unfolding everything
though-refused f =
    let e = f 0 (bytes "a") (bytes "b") (short_of (bytes "a")) (short_of (bytes "b")) (short-met _ (bytes "a") refl (lit< tt)) (short-met _ (bytes "b") refl (lit< tt)) refl in
    let z : ◌≡◌ {A = ℕ} 97 98 = cc in omega arith

-- `a` twice, into buffers of one byte and of two
of-buffer : KeysToldOfBuffer → ⊥
unfolding everything
of-buffer f =
    let met : (b : Text) → 1 ≤ length b → MetOne (to_bstring 0 (bytes "a")) (writing (bytes "a") b) = λ b h. writing-met _ (bytes "a") b refl h in
    let two : TwoTold 0 (bytes "a") (bytes "a") (writing (bytes "a") (bytes "x")) (writing (bytes "a") (bytes "xy")) = record { first-met = met (bytes "x") (lit≤ tt); first_done = refl; second-met = met (bytes "xy") (lit≤ tt); second-done = refl } in
    let e = (f 0 (bytes "a") (bytes "a") (writing (bytes "a") (bytes "x")) (writing (bytes "a") (bytes "xy")) two).1 refl in
    omega (arith, ap (λ (t : Text). length t) e)

-- none of them holds
pub false-key-variants : FalseKeyVariants
false-key-variants =
    record {
      keys-across-operations = across-operations;
      keys-of-equal-specs = equal-specs;
      keys-of-any-specs = any-specs;
      keys-without-force = without-force;
      same-keys-in-push = in-push;
      same-keys-in-any-place = in-any-place;
      apart-is-enough = apart-enough;
      together-is-enough = together-enough;
      read-back-of-any-length = any-length;
      keys-fit = keys-fit;
      keys-within-two = within-two;
      read-back-of-any-source = any-source;
      read-back-is-accepted = is-accepted;
      no-plus-reads-back = no_plus_lem;
      read-back-is-the-same = is-the-same;
      keys-told-though-refused = though-refused;
      keys-told-of-buffer = of-buffer;
    }

-- there are such calls
pub key-calls-met : KeyCallsMet
unfolding everything
key-calls-met =
    record {
      one-sided = writing (bytes "a:a") (bytes "wxyz");
      one-sided-met = writing-met _ (bytes "a:a") (bytes "wxyz") refl (lit≤ tt);
      one-sided-done = (refl, refl);
      two-sided = writing (bytes "a:a") (bytes "wxyz");
      two-sided-met = writing-met _ (bytes "a:a") (bytes "wxyz") refl (lit≤ tt);
      two-sided-done = (refl, refl);
      exception = writing (bytes "+a") (bytes "wxyz");
      exception-met = writing-met _ (bytes "+a") (bytes "wxyz") refl (lit≤ tt);
      exception-done = (refl, refl);
      again = writing (bytes "a") (bytes "wxyz");
      again-met = writing-met _ (bytes "a") (bytes "wxyz") refl (lit≤ tt);
      again-done = (refl, refl);
      long = writing (long ++ (colon ∷ long)) (long ++ (colon ∷ long));
      long-met = writing-met _ (long ++ (colon ∷ long)) (long ++ (colon ∷ long)) (every-accepted-has-key 1 long (only long) long-read).1 (omega arith);
      long-done = (refl, refl);
    }
