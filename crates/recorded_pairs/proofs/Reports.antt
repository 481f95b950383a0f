-- A whole report from its fields. Assumes nothing.
use Prim.Native.Nat.{ℕ, ◌+◌, ◌≤◌, ◌<◌}
use native.Mathlib.Omega.{arith}
use mathlib.Core.Path.{◌≡◌, refl, sym, ap, ◌∙◌}
use mathlib.Core.Bool.{Bool, true, false, false≢true}
use mathlib.Core.List.{[], ◌∷◌, ◌++◌, append-nil}
use mathlib.Core.Option.{Option, none, some}
use borrow.Author.Tests.{leb-false}
use lib.Dec.{leb, eqb}
use lib.ListN.{length, take, drop, length-append}
use lib.Seq.{drop-drop, take_at}
use Rattle.meaning.specs.Bytes.{Text, same}
use Rattle.meaning.specs.Spec.{Answer, accepted, refused}
use Rattle.meaning.specs.Buffers.{refuses, short, writes, outcome, Tells, LengthBeside, or_zero, one_length, written_mark, MeetsMaybe}
use Rattle.meaning.specs.Entries.{◌and_then◌}
use Rattle.meaning.specs.Collide.{collide, collide_bytes}
use Rattle.promises.proofs.Laws.{same-is}
use Rattle.number.specs.Reading.{Octets}
use Rattle.std.specs.Prelude as std
use Rattle.std.specs.Option.{option_eq}
use Rattle.recorded.specs.Record.{sized, sized_room}
use Rattle.recorded.specs.Field.{field_at, front_at}
use Rattle.recorded.proofs.Fields.{never, begins-own, text-too-long, field-within, field-then, field-whole, field-unlike}
use Rattle.recorded.proofs.Texts.{front_fits, front-room}
use Rattle.recorded_pairs.specs.PairRecord.{report_bytes}

-- what a call tells of its answer: three numbers and the buffer's front are its bytes; or the destination is longer than the buffer
data Says (a : Answer (Option Text)) (entry exit : Text) (refusal which mark size : ℕ) : Type 0 where
  fits : size ≤ length exit → report_bytes a ≡ refusal ∷ which ∷ mark ∷ sized (take size exit) → Says a entry exit refusal which mark size
  long : length exit < size → (d : Text) → a ≡ accepted (some d) → length entry < length d → Says a entry exit refusal which mark size

-- four numbers tell it
same-told : {n k m x y z : ℕ} {t u : Text} → x ≡ n → y ≡ k → z ≡ m → u ≡ t → n ∷ k ∷ m ∷ sized t ≡ x ∷ y ∷ z ∷ sized u
same-told e f g h = rw (e, f, g, h)

module _ (entry exit : Text) (refusal which mark size : ℕ) where
  -- nothing is at the front
  no_front : size ≡ 0 → take size exit ≡ []
  no_front e = rw e

  says : (a : Answer (Option Text)) → MeetsMaybe (a and_then λ o. accepted (o ∷ [])) entry exit refusal which mark size → Says a entry exit refusal which mark size
  says (refused n r) m =
      let t : Tells (refuses n r) m.told = m.meets.tells in
      let b : m.told.beside ≡ 0 = t.beside-is in
      let z : size ≡ 0 = m.size_is ∙ rw t.lengths-are b in
      fits (omega arith) (same-told (m.refusal_is ∙ t.refusal_is) (m.record_is ∙ ap or_zero t.record_is) (m.mark-is ∙ ap written_mark t.lengths-are) (no_front z))
  says (accepted none) m =
      let t : Tells (writes (none ∷ [])) m.told = m.meets.tells in
      let z : size ≡ 0 = m.size_is ∙ ap (λ l. one_length l m.told.beside) t.lengths-are in
      fits (omega arith) (same-told (m.refusal_is ∙ t.refusal_is) (m.record_is ∙ ap or_zero t.record_is) (m.mark-is ∙ ap written_mark t.lengths-are) (no_front z))
  says (accepted (some d)) m = go (leb (length d) (length entry)) refl
    where
      go : (l : Bool) → leb (length d) (length entry) ≡ l → Says (accepted (some d)) entry exit refusal which mark size
      go true e =
          let o : outcome (accepted (some d ∷ [])) (entry ∷ []) ≡ writes (some d ∷ []) = rw e in
          let t : Tells (writes (some d ∷ [])) m.told = rw o at m.meets.tells in
          let x : exit ∷ [] ≡ (d ++ drop (length d) entry) ∷ [] = rw o at m.meets.buffers-are in
          let y : exit ≡ d ++ drop (length d) entry = cc in
          let z : size ≡ length d = m.size_is ∙ ap (λ l. one_length l m.told.beside) t.lengths-are in
          let front : take size exit ≡ d = rw y (take_at d (drop (length d) entry) size (sym z)) in
          let few : length exit ≡ length (d ++ drop (length d) entry) = ap length y in
          fits (omega (arith, length-append d (drop (length d) entry))) (same-told (m.refusal_is ∙ t.refusal_is) (m.record_is ∙ ap or_zero t.record_is) (m.mark-is ∙ ap written_mark t.lengths-are) front)
      go false e =
          let o : outcome (accepted (some d ∷ [])) (entry ∷ []) ≡ short 1 (length d) = rw e in
          let t : Tells (short 1 (length d)) m.told = rw o at m.meets.tells in
          let x : exit ∷ [] ≡ entry ∷ [] = rw o at m.meets.buffers-are in
          let y : exit ≡ entry = cc in
          let z : size ≡ m.told.beside = m.size_is ∙ ap (λ l. one_length l m.told.beside) t.lengths-are in
          let beside : LengthBeside (length d) m.told.beside = t.beside-is in
          let more : length entry < length d = leb-false (length d) (length entry) e in
          long (omega (arith, ap length y, beside.at_least)) d refl more

-- a destination that is longer than two bytes tell is in no record
long-off : (told : Text) (at : ℕ) (d : Text) → Octets told → sized_room ≤ length d → same (0 ∷ 0 ∷ 1 ∷ sized d) (drop at told) ≡ false
long-off told at d o h = never (same (0 ∷ 0 ∷ 1 ∷ sized d) (drop at told)) off
  where
    off : same (0 ∷ 0 ∷ 1 ∷ sized d) (drop at told) ≡ true → ⊥
    off e =
        let is : drop (at + 3) told ≡ sized d ++ [] = sym (drop-drop 3 at told) ∙ ap (drop 3) (sym (same-is (0 ∷ 0 ∷ 1 ∷ sized d) (drop at told) e)) ∙ sym (append-nil (sized d)) in
        false≢true (sym (text-too-long told (at + 3) d o h) ∙ rw is (begins-own (sized d) []))

module _ (first second entry exit : Text) (refusal which mark size : ℕ) (m : MeetsMaybe (collide_bytes first second) entry exit refusal which mark size) (room : sized_room ≤ length entry)
    (told : Text) (at : ℕ) (o : Octets told) (r : std.Option ℕ) (f : r ≡ field_at told at (refusal ∷ which ∷ mark ∷ [])) where
  told-so : Says (collide first second) entry exit refusal which mark size
  unfolding collide_bytes
  told-so = says entry exit refusal which mark size (collide first second) m

  -- one that is longer than the buffer is not told
  none-such : (d : Text) → collide first second ≡ accepted (some d) → length entry < length d → false ≡ same (report_bytes (collide first second)) (drop at told)
  none-such d e l = rw e (sym (long-off told at d o (omega arith)))

  -- the numbers differ
  pub numbers-differ : r ≡ std.None → false ≡ same (report_bytes (collide first second)) (drop at told)
  numbers-differ e = go told-so
    where
      go : Says (collide first second) entry exit refusal which mark size → false ≡ same (report_bytes (collide first second)) (drop at told)
      go (fits l i) = rw i (field-unlike told at (refusal ∷ which ∷ mark ∷ []) r f e (sized (take size exit)))
      go (long l d i k) = none-such d i k

  module _ (next : ℕ) (e : r ≡ std.Some next) (q : std.Option ℕ) (g : q ≡ front_at told next exit size) where
    -- the destination is the last field, or it differs, or more follows
    pub report-whole : at ≤ length told → (b : Bool) → b ≡ option_eq eqb q (std.Some (length told)) → b ≡ same (report_bytes (collide first second)) (drop at told)
    report-whole h b d = go told-so
      where
        within : next ≤ length told
        within = field-within told at (refusal ∷ which ∷ mark ∷ []) h r next f e

        missing : length exit < size → (p : std.Option ℕ) → q ≡ p → b ≡ option_eq eqb p (std.Some (length told)) → b ≡ false
        missing l std.None z y = y
        missing l (std.Some end) z y = absurd (omega (arith, front-room told next exit size q g end z))

        go : Says (collide first second) entry exit refusal which mark size → b ≡ same (report_bytes (collide first second)) (drop at told)
        go (fits l i) =
            let t = sized (take size exit) in
            rw i (field-then told at (refusal ∷ which ∷ mark ∷ []) r f next e b t (field-whole told next t q (front_fits told next exit size q g l) within b d))
        go (long l t i k) = missing l q refl d ∙ none-such t i k
