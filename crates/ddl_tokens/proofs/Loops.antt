-- A loop over steps.
use Rattle.std.proofs.Common.{◌≡◌, ℕ, zero, suc, ◌<◌, Bool, true, false, List, length, Result, Ok, Err, refl, sym, ap, ◌∙◌, arith}
use Rattle.ddl_tokens.specs.Tokens.{Token}
use Rattle.ddl_tokens.specs.declared.fault.SyntaxFault.{SyntaxFault}
use Rattle.ddl_tokens.specs.declared.fault.ReadFault.{ReadFault}
use Rattle.ddl_tokens.specs.declared.fault.ReadFault.TheVariants as fault
use Rattle.ddl_tokens.specs.Reading.{◌>>=◌, Gives}
use Rattle.ddl_tokens.specs.Lists.{GivesStep, More, go, stop, Step, steps, repeat, SoFar}

pub begins : {A : Type 0} (step : Step A) (a : A) (ts : List Token) → SoFar step a ts a ts
unfolding repeat
begins step a ts = record { left = suc (length ts); enough = omega arith; same = refl }

pub goes : {A : Type 0} (step : Step A) (first : A) (all : List Token) (a : A) (ts : List Token) (b : A) (rest : List Token) → SoFar step first all a ts → step a ts ≡ Ok (go b rest) → length rest < length ts → SoFar step first all b rest
unfolding steps
goes {A} step first all a ts b rest s e h = at s.left s.enough s.same where
  at : (n : ℕ) → length ts < n → steps step n a ts ≡ repeat step first all → SoFar step first all b rest
  at zero lt same = absurd (omega arith)
  at (suc n) lt same = record { left = n; enough = omega arith; same = sym (ap (λ (r : Result (More A) SyntaxFault). r >>= λ m. elim m [ go c ts' ↦ steps step n c ts' | stop c ts' ↦ Ok (c, ts') ]) e) ∙ same }

pub stops : {A : Type 0} (step : Step A) (first : A) (all : List Token) (a : A) (ts : List Token) (b : A) (rest : List Token) → SoFar step first all a ts → step a ts ≡ Ok (stop b rest) → repeat step first all ≡ Ok (b, rest)
unfolding steps
stops {A} step first all a ts b rest s e = at s.left s.enough s.same where
  at : (n : ℕ) → length ts < n → steps step n a ts ≡ repeat step first all → repeat step first all ≡ Ok (b, rest)
  at zero lt same = absurd (omega arith)
  at (suc n) lt same = sym same ∙ ap (λ (r : Result (More A) SyntaxFault). r >>= λ m. elim m [ go c ts' ↦ steps step n c ts' | stop c ts' ↦ Ok (c, ts') ]) e

told : {Y : Type 0} (step : Step Y) (first : Y) (all : List Token) (a : Y) (ts : List Token) (f : SyntaxFault) → SoFar step first all a ts → step a ts ≡ Err f → repeat step first all ≡ Err f
unfolding steps
told {Y} step first all a ts f s e = at s.left s.enough s.same where
  at : (n : ℕ) → length ts < n → steps step n a ts ≡ repeat step first all → repeat step first all ≡ Err f
  at zero lt same = absurd (omega arith)
  at (suc n) lt same = sym same ∙ ap (λ (r : Result (More Y) SyntaxFault). r >>= λ m. elim m [ go c ts' ↦ steps step n c ts' | stop c ts' ↦ Ok (c, ts') ]) e

-- the same, as a step function's answer says it
pub fails : {X Y Z : Type 0} (view : X → Y) (seen : Z → Y) (step : Step Y) (first : Y) (all : List Token) (a : Y) (ts : List Token) (e : ReadFault) (new : X) (rest later : List Token) → SoFar step first all a ts
    → GivesStep view (Err e) new rest (step a ts) → Gives seen (Err e) later (repeat step first all)
fails view seen step first all a ts (fault.Syntax f) new rest later s h = λ _. told step first all a ts f s (h (λ e. absurd cc))
fails view seen step first all a ts fault.NoMemory new rest later s h = λ n. absurd (n refl)

pub stopped : {X Y : Type 0} (view : X → Y) (step : Step Y) (first : Y) (all : List Token) (a : Y) (ts : List Token) (more : Bool) (new : X) (rest : List Token) → SoFar step first all a ts → more ≡ false → GivesStep view (Ok more) new rest (step a ts) → repeat step first all ≡ Ok (view new, rest)
stopped view step first all a ts true new rest s e h = absurd cc
stopped view step first all a ts false new rest s e h = stops step first all a ts (view new) rest s (h (λ e. absurd cc))
