-- False variants of document 02, W13: statements near it. FalseKeyVariants says that none of them holds.
use Rattle.std.specs.Prelude.{ℕ, ◌+◌, ◌/◌, ◌≤◌, ◌≡◌, ◌↔◌, true, false, List, [], ◌∷◌, length, replicate}
use Rattle.std.proofs.Math.Option.{some}
use Rattle.meaning.specs.Bytes.{Text, bytes, byte, begins, In}
use Rattle.meaning.specs.Limits.{spec_bytes}
use Rattle.meaning.specs.Spec.{accepted, Spec, read_spec}
use Rattle.meaning.specs.Instruction.{instruction, canonical_text}
use Rattle.meaning.specs.Lists.{read_specs}
use Rattle.meaning.specs.Listing.{forward_rows}
use Rattle.meaning.specs.Entries.{instructed, to_bstring}
use Rattle.promises.specs.Accepted.{AcceptedSpec}
use Rattle.promises.specs.Terms.{TwoSpecs, canonical_texts, plus_only, unforced, OneCall, MetOne, bytes_of}
use Rattle.promises.specs.KeyCalls.{TwoTold}

-- Equal keys

-- the two specs may be of different operations
abbrev pub KeysAcrossOperations : Type 0
KeysAcrossOperations =
    (op op' : ℕ) (t u : Text) (s r : Spec)
    → read_spec op t ≡ accepted s
    → read_spec op' u ≡ accepted r
    → canonical_text op s ≡ canonical_text op' r
    → instruction op s ≡ instruction op' r

-- equal keys are keys of equal specs
abbrev pub KeysOfEqualSpecs : Type 0
KeysOfEqualSpecs =
    (op : ℕ) (t u : Text) (s r : Spec)
    → TwoSpecs op t u s r
    → canonical_text op s ≡ canonical_text op r
    → s ≡ r

-- no text need give the specs, if they have what an accepted spec has
abbrev pub KeysOfAnySpecs : Type 0
KeysOfAnySpecs = (op : ℕ) (s r : Spec) → AcceptedSpec op s → AcceptedSpec op r → canonical_text op s ≡ canonical_text op r → instruction op s ≡ instruction op r

-- the instructions are compared without what they allow
abbrev pub KeysWithoutForce : Type 0
KeysWithoutForce =
    (op : ℕ) (t u : Text) (s r : Spec)
    → TwoSpecs op t u s r
    → (canonical_text op s ≡ canonical_text op r) ↔ (unforced (instruction op s) ≡ unforced (instruction op r))

-- two pushes with one key have the same rows
abbrev pub SameKeysInPush : Type 0
SameKeysInPush =
    (t u : Text) (s r : Spec) (names : List Text)
    → TwoSpecs 1 t u s r
    → canonical_text 1 s ≡ canonical_text 1 r
    → forward_rows (s ∷ []) names ≡ forward_rows (r ∷ []) names

-- the keys of two fetch groups are the same, in whatever places
abbrev pub SameKeysInAnyPlace : Type 0
SameKeysInAnyPlace =
    (specs specs' : Text) (group group' : List Spec) (names : List Text)
    → read_specs 0 specs ≡ accepted group
    → read_specs 0 specs' ≡ accepted group'
    → ((k : Text) → In k (canonical_texts group) ↔ In k (canonical_texts group'))
    → forward_rows group names ≡ forward_rows group' names

-- One direction alone

-- a text for every spec that differs where the instructions do
abbrev pub TellsApart : (ℕ → Text → Text) → Type 0
TellsApart key =
    (op : ℕ) (t u : Text) (s r : Spec)
    → TwoSpecs op t u s r
    → key op t ≡ key op u
    → instruction op s ≡ instruction op r

-- one that is the same where the instructions are
abbrev pub TellsTogether : (ℕ → Text → Text) → Type 0
TellsTogether key =
    (op : ℕ) (t u : Text) (s r : Spec)
    → TwoSpecs op t u s r
    → instruction op s ≡ instruction op r
    → key op t ≡ key op u

-- the first gives the second
abbrev pub ApartIsEnough : Type 0
ApartIsEnough = (key : ℕ → Text → Text) → TellsApart key → TellsTogether key

-- the second gives the first
abbrev pub TogetherIsEnough : Type 0
TogetherIsEnough = (key : ℕ → Text → Text) → TellsTogether key → TellsApart key

-- Reading back

-- the text need not fit the limit
abbrev pub ReadBackOfAnyLength : Type 0
ReadBackOfAnyLength =
    (op : ℕ) (t : Text) (s : Spec)
    → read_spec op t ≡ accepted s
    → plus_only (instruction op s) ≡ false
    → instructed op (canonical_text op s) ≡ accepted (instruction op s)

-- every text fits it
abbrev pub KeysFit : Type 0
KeysFit = (op : ℕ) (t : Text) (s : Spec) → read_spec op t ≡ accepted s → length (canonical_text op s) ≤ spec_bytes

-- no text is longer than two specs
abbrev pub KeysWithinTwo : Type 0
KeysWithinTwo = (op : ℕ) (t : Text) (s : Spec) → read_spec op t ≡ accepted s → length (canonical_text op s) ≤ spec_bytes + spec_bytes

-- a fetch-only source may begin with `+`
abbrev pub ReadBackOfAnySource : Type 0
ReadBackOfAnySource =
    (op : ℕ) (t : Text) (s : Spec)
    → read_spec op t ≡ accepted s
    → length (canonical_text op s) ≤ spec_bytes
    → instructed op (canonical_text op s) ≡ accepted (instruction op s)

-- such a text is accepted at least
abbrev pub ReadBackIsAccepted : Type 0
ReadBackIsAccepted =
    (op : ℕ) (t : Text) (s : Spec)
    → read_spec op t ≡ accepted s
    → length (canonical_text op s) ≤ spec_bytes
    → (r : Spec) × (read_spec op (canonical_text op s) ≡ accepted r)

-- every source that begins with `+` is an exception
abbrev pub NoPlusReadsBack : Type 0
NoPlusReadsBack =
    (op : ℕ) (t src : Text) (s : Spec)
    → read_spec op t ≡ accepted s
    → s.source ≡ some src
    → begins (bytes "+") src ≡ true
    → instructed op (canonical_text op s) ≡ accepted (instruction op s)
    → ⊥

-- what is read back is the spec itself
abbrev pub ReadBackIsTheSame : Type 0
ReadBackIsTheSame =
    (op : ℕ) (t : Text) (s : Spec)
    → read_spec op t ≡ accepted s
    → length (canonical_text op s) ≤ spec_bytes
    → plus_only (instruction op s) ≡ false
    → read_spec op (canonical_text op s) ≡ accepted s

-- Calls

-- the calls may tell a refusal
abbrev pub KeysToldThoughRefused : Type 0
KeysToldThoughRefused =
    (op : ℕ) (t u : Text) (c d : OneCall)
    → MetOne (to_bstring op t) c
    → MetOne (to_bstring op u) d
    → bytes_of c ≡ bytes_of d
    → instructed op t ≡ instructed op u

-- the key is the whole buffer
abbrev pub KeysToldOfBuffer : Type 0
KeysToldOfBuffer =
    (op : ℕ) (t u : Text) (c d : OneCall)
    → TwoTold op t u c d
    → (c.after ≡ d.after) ↔ (instructed op t ≡ instructed op u)

-- none of them holds
pub record FalseKeyVariants : Type 0 where
  pub keys-across-operations : KeysAcrossOperations → ⊥
  pub keys-of-equal-specs : KeysOfEqualSpecs → ⊥
  pub keys-of-any-specs : KeysOfAnySpecs → ⊥
  pub keys-without-force : KeysWithoutForce → ⊥
  pub same-keys-in-push : SameKeysInPush → ⊥
  pub same-keys-in-any-place : SameKeysInAnyPlace → ⊥
  pub apart-is-enough : ApartIsEnough → ⊥
  pub together-is-enough : TogetherIsEnough → ⊥
  pub read-back-of-any-length : ReadBackOfAnyLength → ⊥
  pub keys-fit : KeysFit → ⊥
  pub keys-within-two : KeysWithinTwo → ⊥
  pub read-back-of-any-source : ReadBackOfAnySource → ⊥
  pub read-back-is-accepted : ReadBackIsAccepted → ⊥
  pub no-plus-reads-back : NoPlusReadsBack → ⊥
  pub read-back-is-the-same : ReadBackIsTheSame → ⊥
  pub keys-told-though-refused : KeysToldThoughRefused → ⊥
  pub keys-told-of-buffer : KeysToldOfBuffer → ⊥

-- the statements speak of something: calls that leave one key for two spellings of a push; one that leaves the key of an exception, and one
-- on that key, which leaves another; and one that leaves a key above the limit
pub record KeyCallsMet : Type 0 where
  pub one-sided : OneCall
  pub one-sided-met : MetOne (to_bstring 1 (bytes "a")) one-sided
  pub one-sided-done : (one-sided.refusal ≡ 0) × (bytes_of one-sided ≡ bytes "a:a")
  pub two-sided : OneCall
  pub two-sided-met : MetOne (to_bstring 1 (bytes "a:a")) two-sided
  pub two-sided-done : (two-sided.refusal ≡ 0) × (bytes_of two-sided ≡ bytes "a:a")
  pub exception : OneCall
  pub exception-met : MetOne (to_bstring 0 (bytes "++a")) exception
  pub exception-done : (exception.refusal ≡ 0) × (bytes_of exception ≡ bytes "+a")
  pub again : OneCall
  pub again-met : MetOne (to_bstring 0 (bytes_of exception)) again
  pub again-done : (again.refusal ≡ 0) × (bytes_of again ≡ bytes "a")
  pub long : OneCall
  pub long-met : MetOne (to_bstring 1 (replicate (spec_bytes / 2) (byte "a"))) long
  pub long-done : (long.refusal ≡ 0) × (long.size ≡ spec_bytes + 1)
