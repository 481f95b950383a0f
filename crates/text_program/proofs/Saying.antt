-- What is printed piece by piece. Assumes nothing.
use Rattle.std.proofs.Common.{◌≡◌, ℕ, zero, suc, ◌+◌, ◌-◌, ◌^◌, ◌<◌, Bool, true, false, not, [], ◌∷◌, ◌++◌, arith, rules, refl, sym, ap, ◌∙◌, subst, length, get_or, take, drop, position, append_assoc, Option, Some, None, cond, lit<, le_refl}
use lib.Seq.{take_all}
use lib.ListN.{length-drop}
use Rattle.std.specs.List.{position_from}
use Rattle.std.specs.Fmt.{decimal}
use Rattle.std.proofs.lemmas.Fmt.{decimal_from_appends, length-decimal-le}
use Rattle.std.proofs.lemmas.List.Quantifiers.{position-Some}
use Rattle.std.proofs.lemmas.Iterator.Adapters.{position_from-zero}
use Rattle.std.proofs.KnownBytes.{Appends-trans}
use Rattle.std.specs.Io.KnownBytes.{Appends}
use Rattle.meaning.specs.Bytes.{Text}
use Rattle.meaning.specs.Deliveries.{digits, shown_byte}
use Rattle.print.specs.Lines.{printable, coded}
use Rattle.refused_line.specs.Message.{numeral}
use Rattle.text_program.specs.Output.{in_print, needs_code}

-- a number's digits are those that std writes
pub decimal-numeral : (n : ℕ) → n < 2 ^ 64 → decimal n ≡ numeral n
unfolding numeral
decimal-numeral n h =
    let few : n < 10 ^ 20 = omega (arith, h) in
    sym (decimal_from_appends digits (search rules) 20 n h (length-decimal-le 20 n (lit< tt) few h))

not-true : (b : Bool) → not b ≡ true → b ≡ false
not-true true e = sym e
not-true false e = refl

not-false : (b : Bool) → not b ≡ false → b ≡ true
not-false true e = refl
not-false false e = sym e

-- up to the first byte that is not printed as it is
print_upto : (t : Text) (k : ℕ) → k < length t → ((j : ℕ) → j < k → needs_code (get_or t j 0) ≡ false) → needs_code (get_or t k 0) ≡ true
    → in_print t ≡ take k t ++ (coded (get_or (drop k t) 0 0) ++ in_print (drop 1 (drop k t)))
unfolding shown_byte coded
print_upto [] k h plain code = absurd (omega arith)
print_upto (x ∷ t) zero h plain code = let p = not-true _ code in rw p refl
print_upto (x ∷ t) (suc k) h plain code =
    let p = not-false _ (plain 0 (omega arith)) in
    let more = print_upto t k (omega arith) (λ j l. plain (suc j) (omega arith)) code in
    rw (p, more) refl

-- where there is none, all is
print_all : (i : ℕ) (t : Text) → position_from needs_code i t ≡ None → in_print t ≡ t
unfolding shown_byte
print_all i [] e = refl
print_all i (x ∷ t) e = go (printable x) refl (print_all (i + 1) t) e
  where
    go : (b : Bool) → printable x ≡ b → (position_from needs_code (i + 1) t ≡ None → in_print t ≡ t)
        → cond (not b) (Some i) (position_from needs_code (i + 1) t) ≡ None → shown_byte x ++ in_print t ≡ x ∷ t
    go true p more f = rw p (ap (λ l. x ∷ l) (more f))
    go false p more f = cc

-- the output grew by what is printed of a text before a rest of it
pub record Printed (before now : Option Text) (t rest : Text) : Type 0 where
  pub first : Text
  pub appends : Appends before now first
  pub joins : first ++ in_print rest ≡ in_print t

-- by as much of the rest as is printed as it is, and the byte after that
pub printed-more : (a b c d : Option Text) (t rest : Text) (k : ℕ) → Printed a b t rest → position needs_code rest ≡ Some k
    → Appends b c (take k rest) → Appends c d (coded (get_or (drop k rest) 0 0)) → Printed a d t (take (length (drop k rest) - 1) (drop 1 (drop k rest)))
printed-more a b c d t rest k so e p q =
    let at = position-Some needs_code rest k 0 e in
    let cut = print_upto rest k at.0 at.2 at.1 in
    let left = take_all (length (drop k rest) - 1) (drop 1 (drop k rest)) (rw length-drop (le_refl _)) in
    record {
      first = so.first ++ (take k rest ++ coded (get_or (drop k rest) 0 0));
      appends = Appends-trans a b d _ _ so.appends (Appends-trans b c d _ _ p q);
      joins = rw (left, append_assoc, append_assoc, ← cut) so.joins;
    }

-- and by all of the rest
pub printed-all : (a b c : Option Text) (t rest : Text) → Printed a b t rest → position needs_code rest ≡ None → Appends b c rest → Appends a c (in_print t)
printed-all a b c t rest so e p =
    let whole : in_print rest ≡ rest = print_all 0 rest (sym (position_from-zero needs_code rest) ∙ e) in
    subst (Appends a c) (ap (λ l. so.first ++ l) (sym whole) ∙ so.joins) (Appends-trans a b c _ _ so.appends p)
