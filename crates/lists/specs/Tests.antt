-- Tests, as Booleans.
-- Proves when both of two pass, one of two or neither, and what a choice by a test is. Assumes nothing.
use Rattle.std.specs.Prelude.{◌≡◌, refl, Bool, true, false, cond, not, ◌&&◌, ◌||◌, ◌⊎◌, T}
use Rattle.std.proofs.Common.{sym, ◌∙◌, ap, inl, inr}
use Rattle.std.proofs.lemmas.Bool.{false≢true}

-- what holds of the branch that is taken holds of the choice
pub picked : {A : Type 0} (Q : A → Type 0) (b : Bool) {x y : A} → (T b → Q x) → (T (not b) → Q y) → Q (cond b x y)
picked Q true one other = one tt
picked Q false one other = other tt

-- choices that differ in the branch for a failed test alone
pub otherwise : {A : Type 0} (b : Bool) (x : A) {y z : A} → (b ≡ false → y ≡ z) → cond b x y ≡ cond b x z
otherwise true x same = refl
otherwise false x same = same refl

-- a choice, with its branches exchanged, where e is the denial of c
pub exchanged : {A : Type 0} (b c e : Bool) (x y : A) → not c ≡ e → cond (not b && c) x y ≡ cond (b || e) y x
exchanged true c e x y denied = refl
exchanged false true e x y denied = ap (λ a. cond a y x) denied
exchanged false false e x y denied = ap (λ a. cond a y x) denied

-- a test that passes is true
pub passes : (b : Bool) → T b → b ≡ true
passes true t = refl
passes false t = absurd t

-- a test that cannot pass is false
pub fails : (b : Bool) → (T b → ⊥) → b ≡ false
fails true f = absurd (f tt)
fails false f = refl

-- nothing follows from a test that is both
pub contrary : {A : Type 0} {t : Bool} → t ≡ false → t ≡ true → A
contrary z y = absurd (false≢true (sym z ∙ y))

-- ---- both of two tests

pub both : (a b : Bool) → T a → T b → T (a && b)
both true b s t = t
both false b s t = absurd s

pub left : (a b : Bool) → T (a && b) → T a
left true b t = tt
left false b t = t

pub right : (a b : Bool) → T (a && b) → T b
right true b t = t
right false b t = absurd t

-- ---- one of two tests

pub or_left : (a b : Bool) → T a → T (a || b)
or_left true b t = tt
or_left false b t = absurd t

pub or_right : (a b : Bool) → T b → T (a || b)
or_right true b t = tt
or_right false b t = t

pub either : (a b : Bool) → T (a || b) → T a ⊎ T b
either true b t = inl tt
either false b t = inr t

pub neither : (a b : Bool) → (a || b) ≡ false → (a ≡ false) × (b ≡ false)
neither true b e = absurd (false≢true (sym e))
neither false b e = (refl, e)

pub or_false : (a : Bool) → (a || false) ≡ a
or_false true = refl
or_false false = refl
