-- `part_verdict::split_part` meets its contract. What is known behind each line of Algorithm 4.5 is named once: `lift_is` (g), `h_bar_is`, `nonzero`,
-- `m1_and_w_are`.
-- Assumes nothing.
use Rattle.std.proofs.Common.{◌≡◌, false, ◌≢◌, refl, sym, ◌∙◌, subst, arith, ◌*◌}
use Rattle.specification.specs.Limits.{◌²}
use Rattle.specification.specs.Algorithm45.{is_split}
use Rattle.algebra.specs.TakenPrimes.{square_small}
use Rattle.algebra.specs.Divisibility.{pow}
use Rattle.algebra.specs.PolynomialRing.{𝟎}
use Rattle.algebra.specs.CoefficientLists.{poly, 𝓩[x]/}
use Rattle.arrays.specs.Represents.{Represents}
use Rattle.arrays.specs.Sizes.{size_zero, size_nonzero}
use Rattle.part_values.specs.Given.{Given, degree_room, part_room, g_is_monic, digit_chosen}
use Rattle.part_values.specs.ArrayValues.{IsDigitLift, IsHBar, AreM1AndW, PowerOver, HBarOver, WOver, lift_poly}
use Rattle.part_values.proofs.Degrees.{rest_room}
use Rattle.part_verdict.specs.declared.Part.{Part}
use Rattle.part_verdict.specs.PartFound.{PartFound}
use Rattle.part_verdict.proofs.ArrayCases.{
  SplitByItems,
  split_basic,
  split_power,
  split_solid,
  split_split,
  not_divided,
  w_below,
  split_root,
  part_found,
}
use Rattle.part_verdict.proofs.split_part.Goals as goal
use Rattle.part_verdict.proofs.split_part.Goals.{After-digit_lift-lift, After-h_bar-h, Else-size-eq0, After-highest-m1, Else-splits}

-- behind "Choose g"
module _ (c : After-digit_lift-lift) where
  abbrev given : Given c.args.base.n c.args.base.coefs c.args.base.degree c.args.m c.args.f
  given = c.requires.0

  lift_is : IsDigitLift c.args.base.n c.args.base.coefs c.args.base.degree c.digit_lift-lift.result
  lift_is = c.digit_lift-lift.ensures _ _ _ _ c.requires.0

  abbrev power_over : PowerOver c.args.base.n c.args.f c.args.whole
  power_over = record {
    base = _;
    g = c.digit_lift-lift.result;
    d = _;
    m = _;
    given = c.requires.0;
    chosen = lift_is.chosen;
    is = subst (λ a. Represents (c.args.base.n ²) c.args.whole (pow (𝓩[x]/ (c.args.base.n ²)) a c.args.m)) (sym (lift_poly given lift_is)) c.requires.1;
  }

  found : {r : Part} → SplitByItems c.args.base.n c.args.base.coefs c.digit_lift-lift.result c.args.base.degree c.args.m c.args.f r
      → PartFound c.args.base.n c.args.f (c.args.m * c.args.base.degree) r
  found = part_found given lift_is.is

pub returns-then-m-eq1 : goal.returns-then-m-eq1
returns-then-m-eq1 c =
    let part = c.requires.0 in
    rw c.one_factor.ensures (part_found part refl (split_basic part (digit_chosen part) (omega arith)))

pub overflow_mul-g : goal.overflow_mul-g
overflow_mul-g c = omega (arith, square_small _ c.requires.0.prime)

pub h_bar-h-requires : goal.h_bar-h-requires
h_bar-h-requires c = power_over (goal.at.h_bar-h-requires c).After-digit_lift-lift

-- behind "determine h"
module _ (c : After-h_bar-h) where
  h_bar_is : IsHBar c.args.base.n c.digit_lift-lift.result c.args.base.degree c.args.m c.args.f c.h_bar-h.result
  h_bar_is = c.h_bar-h.ensures (power_over c.before)

pub returns-then-size-eq0 : goal.returns-then-size-eq0
returns-then-size-eq0 c =
    let s = (goal.at.returns-then-size-eq0 c).After-h_bar-h in
    let lift = lift_is s.before in
    rw c.one_factor-then-size-eq0.ensures
    (found s.before
    (split_power c.requires.0 lift.chosen (omega arith) (h_bar_is s) (size_zero c.size.ensures (omega arith))))

-- behind "if h̄ = 0"
module _ (c : Else-size-eq0) where
  abbrev h_of : After-h_bar-h
  h_of = c.before.before

  nonzero : poly c.args.base.n c.h_bar-h.result ≢ 𝟎
  nonzero = size_nonzero (h_bar_is h_of).is.reduced c.size.ensures (omega arith)

  abbrev h_bar_over : HBarOver c.args.base.n c.args.base.coefs c.args.base.degree c.args.m c.h_bar-h.result
  h_bar_over = record { g = _; part = _; given = c.requires.0; chosen = (lift_is h_of.before).chosen; is = h_bar_is h_of }

pub highest-m1-requires : goal.highest-m1-requires
highest-m1-requires c = let s = (goal.at.highest-m1-requires c).Else-size-eq0 in (h_bar_over s, nonzero s)

-- behind "Determine the maximum m1 .. and determine w"
module _ (c : After-highest-m1) where
  abbrev lift_of : After-digit_lift-lift
  lift_of = (h_of c.before).before

  m1_and_w_are : AreM1AndW c.args.base.n c.args.base.coefs c.digit_lift-lift.result c.args.base.degree c.args.m c.args.f c.highest-m1.result.m1
      c.highest-m1.result.w
  m1_and_w_are = c.highest-m1.ensures (h_bar_over c.before)

  abbrev w_over : WOver c.args.base.n c.args.base.degree c.args.m c.highest-m1.result.w
  w_over = record { base = _; g = _; part = _; k = _; given = c.requires.0; chosen = (lift_is lift_of).chosen; are = m1_and_w_are }

pub returns-then-m1-eq0 : goal.returns-then-m1-eq0
returns-then-m1-eq0 c =
    let s = (goal.at.returns-then-m1-eq0 c).After-highest-m1 in
    rw c.one_factor-then-m1-eq0.ensures
    (found (lift_of s)
    (split_solid c.requires.0 (lift_is (lift_of s)).chosen (omega arith) (h_bar_is (h_of s.before)) (nonzero s.before) (m1_and_w_are s) (omega arith)))

pub overflow_sub-m : goal.overflow_sub-m
overflow_sub-m c = omega (arith, (m1_and_w_are (goal.at.overflow_sub-m c).After-highest-m1).less)

pub invariant_of-g : goal.invariant_of-g
invariant_of-g c = record { monic = g_is_monic c.requires.0 (lift_is (goal.at.invariant_of-g c).After-digit_lift-lift).chosen }

pub last_factor-last-requires : goal.last_factor-last-requires
last_factor-last-requires c =
    let part = c.requires.0 in
    let top = m1_and_w_are (goal.at.last_factor-last-requires c).After-highest-m1 in
    (part.prime, refl, omega (arith, top.less), rest_room _ _ _ (part_room part), top.is.reduced, top.below)

pub overflow_sub-m-then-splits : goal.overflow_sub-m-then-splits
overflow_sub-m-then-splits c = omega (arith, (m1_and_w_are (goal.at.overflow_sub-m-then-splits c).After-highest-m1).less)

pub returns-then-splits : goal.returns-then-splits
returns-then-splits c =
    let s = (goal.at.returns-then-splits c).After-highest-m1 in
    rw c.two_factors.ensures
    (found (lift_of s)
    (split_split c.requires.0 (lift_is (lift_of s)).chosen (omega arith) (h_bar_is (h_of s.before)) (nonzero s.before) (m1_and_w_are s) (omega arith)
    (sym c.splits.ensures ∙ c.if-splits.true) c.last_factor-last.ensures))

-- where "(p|m) or (m1 ≤ m − 2)" is not so
asked_no : (c : Else-splits) → is_split c.args.base.n c.args.m c.highest-m1.result.m1 ≡ false
asked_no c = sym c.splits.ensures ∙ c.if-splits.false

pub divided_by_exponent-u-requires : goal.divided_by_exponent-u-requires
divided_by_exponent-u-requires c =
    let at = goal.at.divided_by_exponent-u-requires c in
    let s = at.After-highest-m1 in
    let no = asked_no at.Else-splits in
    (w_over s, not_divided _ _ _ no, w_below (m1_and_w_are s) no)

pub lifted-root-requires : goal.lifted-root-requires
lifted-root-requires c =
    let at = goal.at.lifted-root-requires c in
    let part = c.requires.0 in
    let u = c.divided_by_exponent-u.ensures (w_over at.After-highest-m1) in
    (part.prime, omega (arith, degree_room part), (lift_is at.After-digit_lift-lift).chosen.held.reduced, u.is.reduced, u.below)

pub returns : goal.returns
returns c =
    let at = goal.at.returns c in
    let s = at.After-highest-m1 in
    rw c.one_factor-2.ensures
    (found (lift_of s)
    (split_root c.requires.0 (lift_is (lift_of s)).chosen (omega arith) (h_bar_is (h_of s.before)) (nonzero s.before) (m1_and_w_are s) (omega arith)
    (asked_no at.Else-splits) (c.divided_by_exponent-u.ensures (w_over s)) c.lifted-root.ensures))
