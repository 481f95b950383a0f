-- What canonical texts promise as price list keys: document 02, W13. Each statement stands below the sentence that it is for. A spec's
-- key is its canonical text, which the entry `to_bstring` answers, and its instruction is what the entry `instructed` answers. The proofs are
-- in proofs/Keys, what would be false in KeyVariants, and what calls leave in KeyCalls.
use Rattle.std.specs.Prelude.{ℕ, suc, ◌+◌, ◌≤◌, ◌<◌, ◌≡◌, ◌↔◌, true, false, List, [], ◌∷◌, length}
use Rattle.std.proofs.Math.Option.{none, some}
use Rattle.meaning.specs.Bytes.{Text}
use Rattle.meaning.specs.Limits.{spec_bytes}
use Rattle.meaning.specs.Spec.{accepted, refused, Spec, read_spec}
use Rattle.meaning.specs.Instruction.{instruction, canonical_text}
use Rattle.meaning.specs.Lists.{read_specs}
use Rattle.meaning.specs.Entries.{instructed, to_bstring}
use Rattle.promises.specs.Terms.{TwoSpecs, canonical_texts, plus_only, SameMeaning}

-- "[..] for every accepted spec of either operation [..]": each has its instruction and its key.
abbrev pub EveryAcceptedHasKey : Type 0
EveryAcceptedHasKey =
    (op : ℕ) (t : Text) (s : Spec)
    → read_spec op t ≡ accepted s
    → (instructed op t ≡ accepted (instruction op s)) × (to_bstring op t ≡ accepted (some (canonical_text op s) ∷ []))

-- "For two accepted specs of one operation the texts are equal exactly if the instructions are, fetch-only sources beginning with `+`
-- among them."
abbrev pub KeysExactly : Type 0
KeysExactly =
    (op : ℕ) (t u : Text) (s r : Spec)
    → TwoSpecs op t u s r
    → (canonical_text op s ≡ canonical_text op r) ↔ (instruction op s ≡ instruction op r)

-- "Reading a canonical text that fits the limit gives an equal instruction, except for those sources."
-- So such a key is its own key.
abbrev pub KeysReadBack : Type 0
KeysReadBack =
    (op : ℕ) (t : Text) (s : Spec)
    → read_spec op t ≡ accepted s
    → length (canonical_text op s) ≤ spec_bytes
    → plus_only (instruction op s) ≡ false
    → (instructed op (canonical_text op s) ≡ accepted (instruction op s)) × (to_bstring op (canonical_text op s) ≡ accepted (some (canonical_text op s) ∷ []))

-- "[..] that fits the limit [..]": a longer one is refused.
abbrev pub LongKeysRefused : Type 0
LongKeysRefused =
    (op : ℕ) (t : Text) (s : Spec)
    → read_spec op t ≡ accepted s
    → spec_bytes < length (canonical_text op s)
    → read_spec op (canonical_text op s) ≡ refused 1 none

-- No key is longer than two specs and a colon.
abbrev pub KeysWithin : Type 0
KeysWithin = (op : ℕ) (t : Text) (s : Spec) → read_spec op t ≡ accepted s → length (canonical_text op s) ≤ spec_bytes + suc spec_bytes

-- "[..] except for those sources": every one of them is an exception, whether its text is refused or read as another instruction. It
-- holds of any spec, so of every accepted one.
abbrev pub PlusNeverReadsBack : Type 0
PlusNeverReadsBack = (op : ℕ) (s : Spec) → plus_only (instruction op s) ≡ true → instructed op (canonical_text op s) ≡ accepted (instruction op s) → ⊥

-- More than is asked, for "Invoice lines will be keyed by canonical text [..]": two fetch groups with the same keys, each in its place,
-- have the same rows, conflicts, kept rows and fixes, whatever the items and rows. There is no limit, and fetch-only sources that begin
-- with `+` are among them.
abbrev pub SameKeysSameMeaning : Type 0
SameKeysSameMeaning =
    (specs specs' : Text) (group group' : List Spec)
    → read_specs 0 specs ≡ accepted group
    → read_specs 0 specs' ≡ accepted group'
    → canonical_texts group ≡ canonical_texts group'
    → SameMeaning group group' specs specs'

-- all of it
pub record Keys : Type 0 where
  pub every-accepted-has-key : EveryAcceptedHasKey
  pub keys-exactly : KeysExactly
  pub keys-read-back : KeysReadBack
  pub long-keys-refused : LongKeysRefused
  pub keys-within : KeysWithin
  pub plus-never-reads-back : PlusNeverReadsBack
  pub same-keys-same-meaning : SameKeysSameMeaning
