-- What holds of the bytes in a buffer holds of the whole input, where what follows a full buffer changes nothing: `decided`. Assumes nothing.
use Rattle.std.specs.Prelude.{◌≡◌, ℕ, List, ◌++◌, ◌<◌, ◌≤◌, length, take, Some, None, IfSome}
use Rattle.std.proofs.Common.{inl, inr, ◌⊎◌, sym, subst, arith, append-nil, length-take-le}
use Rattle.std.specs.declared.option.Option.{Option}
use Rattle.std.specs.Io.KnownBytes.{Consumes, IsAtEnd}
use Rattle.std.proofs.Math.Nat.{eq-or-lt_of_le}

module _ (P : List ℕ → Type 0) (n count : ℕ) (buf : List ℕ) (more : (xs ys : List ℕ) → n < length xs → P xs → P (xs ++ ys)) (room : n < length buf)
    (fits : count ≤ length buf) (p : P (take count buf)) where
  pub decided : (old new : Option (List ℕ)) → Consumes old new (take count buf) → (count < length buf → IsAtEnd new) → IfSome old P
  decided None new c e = tt
  decided (Some xs) None c e = absurd c
  decided (Some xs) (Some ys) c e = subst P (sym c) (whole (eq-or-lt_of_le fits))
    where
      whole : (count ≡ length buf) ⊎ (count < length buf) → P (take count buf ++ ys)
      whole (inr l) = subst (λ (zs : List ℕ). P (take count buf ++ zs)) (sym (e l)) (subst P (sym (append-nil (take count buf))) p)
      whole (inl l) = more (take count buf) ys (omega (arith, length-take-le count buf fits, room, l)) p
