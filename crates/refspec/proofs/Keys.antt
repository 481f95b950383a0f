-- What calls for the instruction mean goes with what calls for the canonical text leave. Assumes nothing.
use Prim.Native.Nat.{ℕ}
use native.Mathlib.Omega.{arith}
use mathlib.Core.Path.{◌≡◌, refl, sym, ap, ◌∙◌}
use mathlib.Core.List.{[], ◌∷◌}
use mathlib.Core.Option.{some}
use Rattle.std.specs.Prelude.{Result, Ok, Err}
use lib.Dec.{lit≤}
use Rattle.meaning.specs.Bytes.{bytes}
use Rattle.meaning.specs.Spec.{accepted}
use Rattle.meaning.specs.Everything.{everything}
use Rattle.promises.specs.Terms.{MetOne, bytes_of}
use Rattle.promises.specs.KeyCalls.{TwoTold}
use Rattle.promises.proofs.KeyCalls.{keys-told-exactly, keys-told-read-back}
use Rattle.promises.proofs.CallVariants.{writing, writing-met}
use Rattle.parse.specs.declared.types.Side.{Side}
use Rattle.parse.specs.declared.types.Side.TheVariants.{Absent, Part, Head}
use Rattle.parse.specs.Places.{supplied_place, named_place, places_at, places_of, parsed}
use Rattle.refspec.specs.declared.instruction.Instruction.TheVariants.{FetchOnly, FetchExclude, FetchAndUpdate, PushAllMatchingBranches, PushDelete, PushMatching, PushExclude}
use Rattle.refusal.specs.declared.Refusal.{Refusal}
use Rattle.refspec.specs.declared.instruction.Instruction.{Instruction}
use Rattle.refspec.specs.Instructions.{fetch_places, push_places, instruction_places, instructed_places}
use Rattle.refspec.specs.Keys.{KeysMeantExactly, KeysMeantBack, KeysByPlaces, KeysMeant}
use Rattle.refspec.proofs.Answers.{instructed-means}

keys-meant-exactly : KeysMeantExactly
keys-meant-exactly op t u i j c d e f h =
    let k = keys-told-exactly op t u c d h in
    let a = instructed-means op t i e in
    let b = instructed-means op u j f in
    ((λ q. a ∙ k.0 q ∙ sym b), (λ q. k.1 (sym a ∙ q ∙ b)))

keys-meant-back : KeysMeantBack
keys-meant-back op t s i k c e f m z h b g = instructed-means op (bytes_of c) k g ∙ (keys-told-read-back op t s c e m z h b).0 ∙ sym (instructed-means op t i f)

-- where the destination of a push begins
abbrev side_start : Side → ℕ
side_start Absent = 0
side_start (Part start length) = start
side_start Head = 0

abbrev destination_start : Result Instruction Refusal → ℕ
destination_start (Ok (PushMatching src dst force)) = side_start dst
destination_start (Ok (FetchOnly src)) = 0
destination_start (Ok (FetchExclude src)) = 0
destination_start (Ok (FetchAndUpdate src dst force)) = 0
destination_start (Ok (PushAllMatchingBranches force)) = 0
destination_start (Ok (PushDelete dst)) = 0
destination_start (Ok (PushExclude src)) = 0
destination_start (Err q) = 0

-- push `a` has its destination at 0, and `a:a` at 2
not-by-places : KeysByPlaces → ⊥
unfolding everything supplied_place named_place places_at places_of parsed fetch_places push_places instruction_places instructed_places
not-by-places f =
    let met : MetOne (accepted (some (bytes "a:a") ∷ [])) (writing (bytes "a:a") (bytes "xyz")) = writing-met _ (bytes "a:a") (bytes "xyz") refl (lit≤ tt) in
    let two : TwoTold 1 (bytes "a") (bytes "a:a") (writing (bytes "a:a") (bytes "xyz")) (writing (bytes "a:a") (bytes "xyz")) = record { first-met = met; first_done = refl; second-met = met; second-done = refl } in
    let e = f 1 (bytes "a") (bytes "a:a") (instructed_places 1 (bytes "a")) (instructed_places 1 (bytes "a:a")) (writing (bytes "a:a") (bytes "xyz")) (writing (bytes "a:a") (bytes "xyz")) refl refl two refl in
    let z : ◌≡◌ {A = ℕ} 0 2 = ap destination_start e in
    omega arith

pub keys-meant : KeysMeant
keys-meant = record { keys-meant-exactly = keys-meant-exactly; keys-meant-back = keys-meant-back; not-by-places = not-by-places }
