-- Results by the numbers that are answered.
use mathlib.Core.Path.{◌≡◌, refl, sym, ap}
use borrow.Author.Tests.{ne_eqb}
use Rattle.std.specs.Prelude.{Result, Ok, Err, is_ok, IsErrAnd, eqb}
use Rattle.kinds.specs.Answers.{answer_number}
use Rattle.kinds.specs.declared.refusal.Refusal.{Refusal}
use Rattle.std.specs.Result.{is_err}
use mathlib.Core.Bool.{true, false}
use Rattle.kinds.proofs.Answering.{refusal-some}
use Rattle.kinds.proofs.Refusing.{true-false}

-- `?` passes a refusal on as it is
pub passed-is : {A : Type 0} (r : Result A Refusal) (why : Refusal) → IsErrAnd r (λ y. y ≡ why) → r ≡ Err why
passed-is (Ok x) why is = absurd is
passed-is (Err y) why is = ap Err is

-- a call is done where its number is 0
pub ok-number : {A : Type 0} (r : Result A Refusal) → is_ok r ≡ eqb (answer_number r) 0
ok-number (Ok x) = refl
ok-number (Err why) = sym (ne_eqb _ 0 (refusal-some why refl))

-- one that is refused has another number
pub err-some : {A : Type 0} (r : Result A Refusal) → is_err r ≡ true → answer_number r ≡ 0 → ⊥
err-some (Ok x) e = absurd (true-false (sym e))
err-some (Err why) e = refusal-some why refl

pub no-err-done : {A : Type 0} (r : Result A Refusal) → is_err r ≡ false → answer_number r ≡ 0
no-err-done (Ok x) e = refl
no-err-done (Err why) e = absurd (true-false e)
