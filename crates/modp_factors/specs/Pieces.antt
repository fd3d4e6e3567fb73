-- Pieces of a divisor of what is left: `PieceHeld`, a piece divides it and has no square factor; `TwoPieces`, `CutOf`, it is cut in two or irreducible;
-- `State`, the powers found and a stack of pieces that are coprime to one another; `work` measures what is left to do.
-- Proves that such a divisor is a piece, how the state begins, that it goes on with less work where the top piece is cut or divided out, and what it says at
-- the end. Assumes nothing.
use Rattle.std.specs.Prelude.{◌≡◌, refl, Option, None, MatchOption, List, [], ◌∷◌, ◌⊎◌, ℕ, suc, ◌+◌, ◌-◌, ◌≤◌, ◌<◌, ◌*◌, length}
use Rattle.std.proofs.Common.{◌∙◌, ⊎_elim, arith}
use mathlib.Core.List.Memᴰ.{head as here}
use Rattle.std.proofs.Math.Logic.{inl, inr}
use Rattle.lists.specs.Members.{All, all_cons, all_tail}
use Rattle.lists.specs.InOrder.{InOrder}
use Rattle.algebra.specs.Ring.{CommRing}
use Rattle.algebra.specs.Divisibility.{◌∣◌, Coprime, pow, coprime_sym, coprime_divisor, coprime_pow, divides_trans, gauss}
use Rattle.algebra.specs.PolynomialRing.{◌·◌}
use Rattle.algebra.specs.CoefficientLists.{ℤ[x]/, poly, 𝓩[x]/}
use Rattle.arrays.specs.declared.MonicPoly.{MonicPoly}
use Rattle.arrays.specs.Held.{MonicArray}
use Rattle.factorisation.specs.Irreducible.{Irreducible}
use Rattle.factorisation.specs.SquareFree.{SquareFree, squarefree_divisor}
use Rattle.modp_element.specs.Elements.{Known}
use Rattle.modp_factors.specs.declared.Factored.{Factored}
use Rattle.modp_factors.specs.declared.Piece.{Piece}
use Rattle.modp_factors.specs.Factoring.{FactoredBy}

-- the polynomial of a piece
abbrev pub piece_of : (p : ℕ) → Piece → ℤ[x]/ p
piece_of p x = poly p x.poly.coefs

-- a monic polynomial of degree 1 or more, and what is known of its elements
pub record Whole (p : ℕ) (x : Piece) : Type 0 where
  pub modulus : x.poly.n ≡ p
  pub array : MonicArray p x.poly.degree x.poly.coefs
  pub positive : 0 < x.poly.degree
  pub known : Known p x.poly.degree (piece_of p x) x.element

pub record PieceHeld (p : ℕ) (a : ℤ[x]/ p) (x : Piece) : Type 0 where
  pub whole : Whole p x
  pub divides : ◌∣◌ (𝓩[x]/ p) (piece_of p x) a
  pub squarefree : SquareFree (piece_of p x)

-- a divisor without square factors is a piece, of which no element is known
pub divisor_held : (z : MonicPoly) {a : ℤ[x]/ z.n} → 0 < z.degree → ◌∣◌ (𝓩[x]/ z.n) (poly z.n z.coefs) a → SquareFree (poly z.n z.coefs)
    → PieceHeld z.n a (record { poly = z; element = None })
divisor_held z l d s = record {
  whole = record { modulus = refl; array = z.monic; positive = l; known = tt };
  divides = d;
  squarefree = s;
}

-- x is y·z, and these are coprime
pub record TwoPieces (p : ℕ) (x y z : Piece) : Type 0 where
  pub first : Whole p y
  pub second : Whole p z
  pub degrees : y.poly.degree + z.poly.degree ≡ x.poly.degree
  pub coprime : Coprime (𝓩[x]/ p) (piece_of p y) (piece_of p z)
  pub multiplies : piece_of p y · piece_of p z ≡ piece_of p x

abbrev pub CutOf : (p : ℕ) → Piece → Option (Piece × Piece) → Type 0
CutOf p x r = MatchOption r (Irreducible (piece_of p x)) (λ c. TwoPieces p x c.0 c.1)

-- g was divided out of what f leaves, and put among its powers
pub record BaseTaken (p u : ℕ) (f : Factored) (g : ℤ[x]/ p) (r : Factored) : Type 0 where
  pub factored : (Q : ℤ[x]/ p) → FactoredBy p Q u f → FactoredBy p Q u r
  pub times : ℕ
  pub law : poly p r.rest.coefs · pow (𝓩[x]/ p) g times ≡ poly p f.rest.coefs
  pub less : r.rest.degree < f.rest.degree

-- pieces of what f leaves were divided out: what f factors r factors too, and less is left
pub record PiecesTaken (p u : ℕ) (f r : Factored) : Type 0 where
  pub factored : (Q : ℤ[x]/ p) → FactoredBy p Q u f → FactoredBy p Q u r
  pub less : r.rest.degree < f.rest.degree

-- one base alone is enough for what is promised
pub base_pieces : {p u : ℕ} {f : Factored} {g : ℤ[x]/ p} {r : Factored} → BaseTaken p u f g r → PiecesTaken p u f r
base_pieces t = record { factored = t.factored; less = t.less }

-- the degrees of the pieces
unfoldable pub weight : List Piece → ℕ
weight [] = 0
weight (x ∷ S) = x.poly.degree + weight S

-- a cut makes one piece more of the same degrees, a base takes a piece away
unfoldable pub work : List Piece → ℕ
work S = 2 * weight S - length S

abbrev PiecesApart : (p : ℕ) → Piece → Piece → Type 0
PiecesApart p x y = Coprime (𝓩[x]/ p) (piece_of p x) (piece_of p y)

-- `start` is what was found and left at the start
pub record State (p u : ℕ) (start f : Factored) (S : List Piece) : Type 0 where
  pub some : (Q : ℤ[x]/ p) × FactoredBy p Q u f
  pub factored : (Q : ℤ[x]/ p) → FactoredBy p Q u start → FactoredBy p Q u f
  pub held : All (PieceHeld p (poly p f.rest.coefs)) S
  pub apart : InOrder (PiecesApart p) S
  pub weighs : weight S ≤ 32
  pub at_most : f.rest.degree ≤ start.rest.degree
  pub less : (0 < length S) ⊎ (f.rest.degree < start.rest.degree)

-- no piece is of degree 0
pieces_weigh : {p : ℕ} {a : ℤ[x]/ p} (S : List Piece) → All (PieceHeld p a) S → length S ≤ weight S
unfolding weight
pieces_weigh [] h = omega arith
pieces_weigh (x ∷ S) h = omega (arith, (h x (here refl)).whole.positive, pieces_weigh S (all_tail h))

pub state_start : {p u : ℕ} (f : Factored) {x : Piece} → (Q : ℤ[x]/ p) × FactoredBy p Q u f → PieceHeld p (poly p f.rest.coefs) x → State p u f f (x ∷ [])
unfolding weight
state_start f F h = record {
  some = F;
  factored = λ Q G. G;
  held = all_cons h (λ y i. elim i [ ]);
  apart = ((λ y i. elim i [ ]), tt);
  weighs = omega (arith, h.whole.array.fits);
  at_most = omega arith;
  less = inl (omega arith);
}

pub state_done : {p u : ℕ} {start f : Factored} → State p u start f [] → PiecesTaken p u start f
state_done w = record { factored = w.factored; less = ⊎_elim (λ l. absurd (omega arith)) (λ l. l) w.less }

module _ {p u : ℕ} {start f : Factored} {x : Piece} {S : List Piece} (w : State p u start f (x ∷ S)) where
  abbrev 𝓑 : CommRing (ℤ[x]/ p)
  𝓑 = 𝓩[x]/ p

  pub top : PieceHeld p (poly p f.rest.coefs) x
  top = w.held x (here refl)

  rest_weighs : length S ≤ weight S
  rest_weighs = pieces_weigh S (all_tail w.held)

  module _ {y z : Piece} (t : TwoPieces p x y z) where
    -- there is room for one piece more
    pub piece_room : suc (length S) < 32
    unfolding weight
    piece_room = omega (arith, w.weighs, t.degrees, t.first.positive, t.second.positive, rest_weighs)

    first_divides : ◌∣◌ 𝓑 (piece_of p y) (piece_of p x)
    first_divides = (piece_of p z, 𝓑.*_comm (piece_of p z) (piece_of p y) ∙ t.multiplies)

    second_divides : ◌∣◌ 𝓑 (piece_of p z) (piece_of p x)
    second_divides = (piece_of p y, t.multiplies)

    -- a divisor of the top piece is a piece, and coprime to the others
    held_divisor : {v : Piece} → Whole p v → ◌∣◌ 𝓑 (piece_of p v) (piece_of p x) → PieceHeld p (poly p f.rest.coefs) v
    held_divisor W d = record {
      whole = W;
      divides = divides_trans 𝓑 d top.divides;
      squarefree = squarefree_divisor d top.squarefree;
    }

    apart_divisor : (v : Piece) → ◌∣◌ 𝓑 (piece_of p v) (piece_of p x) → All (PiecesApart p v) S
    apart_divisor v d s i = coprime_sym 𝓑 (coprime_divisor 𝓑 d (coprime_sym 𝓑 (w.apart.0 s i)))

    pub state_cut : State p u start f (y ∷ z ∷ S)
    unfolding weight
    state_cut = record {
      some = w.some;
      factored = w.factored;
      held = all_cons (held_divisor t.first first_divides) (all_cons (held_divisor t.second second_divides) (all_tail w.held));
      apart = (all_cons t.coprime (apart_divisor y first_divides), (apart_divisor z second_divides, w.apart.1));
      weighs = omega (arith, w.weighs, t.degrees);
      at_most = w.at_most;
      less = inl (omega arith);
    }

    pub cut_works : work (y ∷ z ∷ S) < work (x ∷ S)
    unfolding work weight
    cut_works = omega (arith, t.degrees, t.first.positive, t.second.positive, rest_weighs)

  module _ {r : Factored} (t : BaseTaken p u f (piece_of p x) r) where
    -- the other pieces divide what is left, since they are coprime to x
    still_divides : (s : Piece) → Coprime 𝓑 (piece_of p x) (piece_of p s) → ◌∣◌ 𝓑 (piece_of p s) (poly p f.rest.coefs) → ◌∣◌ 𝓑 (piece_of p s) (poly p r.rest.coefs)
    still_divides s c d = gauss 𝓑 (coprime_pow 𝓑 t.times (coprime_sym 𝓑 c)) (rw t.law d)

    pub state_taken : State p u start r S
    unfolding weight
    state_taken = record {
      some = (w.some.0, t.factored w.some.0 w.some.1);
      factored = λ Q F. t.factored Q (w.factored Q F);
      held = λ s i.
          let h = all_tail w.held s i in
          record { whole = h.whole; divides = still_divides s (w.apart.0 s i) h.divides; squarefree = h.squarefree };
      apart = w.apart.1;
      weighs = omega (arith, w.weighs);
      at_most = omega (arith, t.less, w.at_most);
      less = inr (omega (arith, t.less, w.at_most));
    }

    pub taken_works : work S < work (x ∷ S)
    unfolding work weight
    taken_works = omega (arith, top.whole.positive, rest_weighs)
