-- The pieces of a line: terms, powers, products and sums, as they are built up, or where the line stops.
-- Proves one law for each way in which `raise`, `term`, `product` and `expression` go on or end. Assumes nothing.
use mathlib.Core.Path.{◌≡◌, refl, sym, subst, ◌∙◌}
use mathlib.Core.Logic.{◌≢◌}
use mathlib.Core.Bool.{true, false}
use mathlib.Core.List.{List}
use Rattle.std.specs.Prelude.{Ok, Err}
use Rattle.specification.specs.Limits.{taken}
use Prim.Native.Nat.{ℕ, ◌+◌, ◌<◌, ◌≤◌}
use native.Mathlib.Nat.{le_refl}
use native.Mathlib.Numerals.{add-one}
use native.Mathlib.Omega.{arith}
use lib.ListN.{get_or}
use Rattle.specification.specs.Grammar.{Tree, number, variable, power, times, plus, minus, At, Blanks, Between, one_product, sum, difference, one_power, product, one_term, raised, digits, x, brackets}
use Rattle.grammar.specs.Machine as machine
use Rattle.grammar.specs.Machine.{Context, bracket, State, NoProduct, Fresh, wants, wants_exponent, is_digit, step, after, after_term}
use Rattle.grammar.proofs.Runs as runs
use Rattle.grammar.specs.Runs.{ExpressionRun}
use Rattle.refusals.specs.declared.Refused.{Refused}
use Rattle.refusals.specs.declared.Refusal.TheVariants.{NotALine}
use Rattle.line_values.specs.declared.Sign.{Sign}
use Rattle.line_values.specs.declared.Sign.TheVariants.{Plus, Minus}
use Rattle.line_values.specs.Worth.{Value, OfNumber, OfX, SignedSum, OfProduct, OfPower}
use Rattle.line_reader.specs.declared.Piece.{Piece}
use Rattle.line_reader.specs.Levels as levels
use Rattle.line_reader.specs.LineContracts.{
  ByteAt,
  Skipped,
  Counted,
  sign_byte,
  Any,
  Stands,
  Halts,
  HaltsAt,
  TermStands,
  PowerStands,
  FactorsStand,
  ProductStands,
  SummandsStand,
  ExpressionStands,
  Asks,
  Raises,
}
use Rattle.line_reader.proofs.Bytes.{sign_is, behind, between}
use Rattle.line_reader.proofs.Judging.{IsAt}
use Rattle.line_reader.proofs.Behind.{number_follows, exponent_follows, term_follows, stopped_open, stopped_bracket, no_exponent, no_term}

-- ---- pieces of any kind

module _ {G : ℕ → ℕ → Tree → Type 0} {Next : Context → Tree → ℕ → State} {Fits : Context → Type 0} {s : List ℕ} {p at : ℕ} where
  -- up to a place that is the same
  stands_to : {next end : ℕ} {r : Value} → end ≡ next → Stands G Next Fits s p at next r → Stands G Next Fits s p at end r
  stands_to {r = r} e w = subst (λ (m : ℕ). Stands G Next Fits s p at m r) (sym e) w

-- no line goes on at the place of the refusal
pub halts_at : {Fits : Context → Type 0} {s : List ℕ} {at place : ℕ} {e : Refused} → IsAt NotALine place e → Halts Fits s at place → HaltsAt Fits s at e
halts_at {Fits} {s} {at} i h = subst (HaltsAt Fits s at) (sym i) (record { number = refl; halts = h })

-- ---- where a piece inside another stops

halts_from : {Fits Inner : Context → Type 0} {s : List ℕ} {at from place : ℕ} → at ≤ from
    → ((K : Context) → Fits K → after s at ≡ wants K → (L : Context) × Inner L × (after s from ≡ wants L)) → Halts Inner s from place → Halts Fits s at place
halts_from l inner h = record {
  from = omega (arith, l, h.from);
  stopped = λ K ok e. let i = inner K ok e in h.stopped i.0 i.1 i.2;
}

-- the refusal of a piece inside another
inside : {Fits Inner : Context → Type 0} {s : List ℕ} {at from : ℕ} {e : Refused} → (Halts Inner s from e.place → Halts Fits s at e.place)
    → HaltsAt Inner s from e → HaltsAt Fits s at e
inside f h = record { number = h.number; halts = f h.halts }

pub halts_product : {s : List ℕ} {at : ℕ} {e : Refused} → HaltsAt NoProduct s at e → HaltsAt Fresh s at e
halts_product {at = at} = inside (halts_from (le_refl at) (λ K ok e. (K, runs.fresh_no_product K ok, e)))

-- ---- an exponent

module _ {s : List ℕ} {p : ℕ} {base : Piece} where
  pub raises_bare : {sign r : ℕ} → Skipped s base.end sign → ByteAt s sign r → r ≢ 94 → Raises s base p (Ok base)
  raises_bare w a h = record {
    took = λ i t. record {
      reach = t.reach;
      within = t.within;
      tree = t.tree;
      stands = one_term t.stands;
      worth = t.worth;
      follows = λ K ok f place k.
          t.follows K ok f place k ∙ levels.term_step K t.tree (get_or s place 0) (λ z. h (sym (sign_is k w a) ∙ z)) k.ends;
    };
  }

  module _ {sign from : ℕ} (w : Skipped s base.end sign) (a : At s sign 94) (b : Skipped s (sign + 1) from) where
    -- the caret has been read
    after_caret : {i : ℕ} (t : TermStands s p i base.end base.value) (K : Context) → after s i ≡ wants K → after s from ≡ wants_exponent K t.tree
    after_caret t K e = runs.caret_runs (runs.term_runs t.stands K e) (between w a b)

    pub raises_halts : {e : Refused} → IsAt NotALine from e → is_digit (get_or s from 0) ≡ false → Raises s base p (Err e)
    raises_halts q f = record {
      took = λ i t.
          halts_at q (record {
            from = omega (arith, t.reach, w.blanks.order, b.blanks.order);
            stopped = λ K ok g. stopped_open b.within (after_caret t K g) refl refl (no_exponent K t.tree _ f b.ends);
          });
    }

    raised_stands : {next e i : ℕ} {r : Value} → (d : Counted s from next e) → is_digit (get_or s next 0) ≡ false → OfPower p base.value e r
        → TermStands s p i base.end base.value → PowerStands s p i next r
    raised_stands {next} {e} {i} {r} d z o t = record {
      reach = omega (arith, t.reach, w.blanks.order, b.blanks.order, d.reach);
      within = d.within;
      tree = power t.tree d.number;
      stands = raised t.stands (between w a b) d.stands;
      worth = o.power t.tree d.number d.value t.worth;
      follows = λ K ok g place k.
          exponent_follows k
          (runs.number_runs (machine.exponent K t.tree) (runs.exponent_first K t.tree) (runs.exponent_digit K t.tree) d.stands
          (after_caret t K g)) z
          ∙ levels.power_step K (power t.tree d.number) (get_or s place 0) k.ends;
    }

    pub raises_power : {next e : ℕ} {r : Value} → Counted s from next e × (is_digit (get_or s next 0) ≡ false) → OfPower p base.value e r
        → Raises s base p (Ok (record { end = next; value = r }))
    raises_power d o = record { took = λ i t. raised_stands d.0 d.1 o t }

-- ---- terms

-- the bracket has been opened
after_open : {s : List ℕ} {at from : ℕ} → At s at 40 → Skipped s (at + 1) from → (K : Context) → after s at ≡ wants K → after s from ≡ wants (bracket K)
after_open a b K e = runs.still (behind b) (runs.wants_blank (bracket K)) (runs.moves a e (runs.wants_open K))

pub halts_inner : {s : List ℕ} {at from : ℕ} {e : Refused} → At s at 40 → Skipped s (at + 1) from → HaltsAt Fresh s from e → HaltsAt Any s at e
halts_inner a b = inside (halts_from (omega (arith, b.blanks.order)) (λ K ok e. (bracket K, tt, after_open a b K e)))

pub halts_term : {s : List ℕ} {at r : ℕ} {q : Refused} → Asks s at → ByteAt s at r → r ≢ 40 → r ≢ 120 → is_digit (get_or s at 0) ≡ false → IsAt NotALine at q
    → HaltsAt Any s at q
halts_term {at} a b g h f i = halts_at i (record {
  from = le_refl at;
  stopped = λ K ok e. stopped_open a.place e refl refl (no_term K _ f a.sign (λ z. h (b.is ∙ z)) (λ z. g (b.is ∙ z)));
})

module _ {s : List ℕ} {p : ℕ} where
  pub term_number : {at next v : ℕ} {r : Value} → Counted s at next v × (is_digit (get_or s next 0) ≡ false) → OfNumber p v r → TermStands s p at next r
  term_number c o = record {
    reach = c.0.reach;
    within = c.0.within;
    tree = number c.0.number;
    stands = digits c.0.stands;
    worth = o.worth c.0.number c.0.value;
    follows = λ K ok g place k. number_follows k (runs.number_runs (machine.number K) (runs.wants_digit K) (runs.number_digit K) c.0.stands g) c.1;
  }

  pub term_x : {at : ℕ} {r : Value} → taken p ≡ true → At s at 120 → OfX r → TermStands s p at (at + 1) r
  term_x {at} prime a o = stands_to (add-one at) (record {
    reach = omega arith;
    within = a.inside;
    tree = variable;
    stands = x a;
    worth = o.worth p prime;
    follows = λ K ok g place k. term_follows k (runs.moves a g (runs.wants_x K));
  })

  module _ {at from end close : ℕ} {inner : Value} (a : At s at 40) (b : Skipped s (at + 1) from) (c : ExpressionStands s p from end inner)
      (d : Skipped s end close) where
    inner_run : (K : Context) → after s at ≡ wants K → ExpressionRun (bracket K) c.tree (after s end)
    inner_run K g = runs.expression_runs c.stands (bracket K) tt (after_open a b K g)

    pub term_brackets : At s close 41 → TermStands s p at (close + 1) inner
    term_brackets e = stands_to (add-one close) (record {
      reach = omega (arith, b.blanks.order, c.reach, d.blanks.order);
      within = e.inside;
      tree = c.tree;
      stands = brackets a (behind b) c.stands d.blanks e;
      worth = c.worth;
      follows = λ K ok g place k. term_follows k (runs.close_runs (inner_run K g) d.blanks e);
    })

    pub halts_close : {r : ℕ} {q : Refused} → ByteAt s close r → r ≢ 41 → IsAt NotALine close q → HaltsAt Any s at q
    halts_close e h i = halts_at i (record {
      from = omega (arith, b.blanks.order, c.reach, d.blanks.order);
      stopped = λ K ok g.
          stopped_bracket d.within (still_run d.blanks (inner_run K g))
          (c.follows (bracket K) tt (after_open a b K g) _ d ∙ levels.not_closed (bracket K) c.tree _ (λ z. h (e.is ∙ z)));
    })
      where
        still_run : {K : Context} {t : Tree} {i j : ℕ} → Blanks s i j → ExpressionRun K t (after s i) → ExpressionRun K t (after s j)
        still_run w r = record { context = r.context; tree = r.tree; ended = runs.still_ended w r.ended; is = r.is }

-- ---- factors

module _ {s : List ℕ} {p : ℕ} where
  pub factors_one : {at next : ℕ} {r : Value} → PowerStands s p at next r → FactorsStand s p at next r
  factors_one w = record {
    reach = w.reach;
    within = w.within;
    tree = w.tree;
    stands = one_power w.stands;
    worth = w.worth;
    follows = λ K ok e place k. w.follows K tt e place k ∙ levels.first_factor K w.tree _ (runs.not_multiplied K ok w.tree);
  }

  module _ {at end from : ℕ} {all : Value} (a : FactorsStand s p at end all) (g : Between s end 42 from) where
    after_star : (K : Context) → NoProduct K → after s at ≡ wants K → after s from ≡ wants (machine.product K a.tree)
    after_star K ok e = runs.star_runs (runs.product_runs a.stands K ok e) g

    beyond_star : at < from
    beyond_star = omega (arith, a.reach, g.before.order, g.behind.order)

    pub factors_more : {next : ℕ} {factor r : Value} → PowerStands s p from next factor → OfProduct p all factor r → FactorsStand s p at next r
    factors_more e o = record {
      reach = omega (arith, beyond_star, e.reach);
      within = e.within;
      tree = times a.tree e.tree;
      stands = product a.stands g e.stands;
      worth = o.product a.tree e.tree a.worth e.worth;
      follows = λ K ok h place k.
          e.follows (machine.product K a.tree) tt (after_star K ok h) place k ∙ levels.next_factor K e.tree _ a.tree;
    }

    pub halts_factor : {e : Refused} → HaltsAt Any s from e → HaltsAt NoProduct s at e
    halts_factor = inside (halts_from (omega (arith, beyond_star)) (λ K ok e. (machine.product K a.tree, tt, after_star K ok e)))

  pub product_done : {at end sign r : ℕ} {all : Value} → FactorsStand s p at end all → Skipped s end sign → ByteAt s sign r → r ≢ 42
      → ProductStands s p at end all
  product_done a b c h = record {
    reach = a.reach;
    within = a.within;
    tree = a.tree;
    stands = a.stands;
    worth = a.worth;
    follows = λ K ok g place k. a.follows K ok g place k ∙ levels.factors_done K a.tree _ (λ z. h (sym (sign_is k b c) ∙ z));
  }

-- ---- summands

module _ {s : List ℕ} {p : ℕ} where
  pub summands_one : {at next : ℕ} {r : Value} → ProductStands s p at next r → SummandsStand s p at next r
  summands_one w = record {
    reach = w.reach;
    within = w.within;
    tree = w.tree;
    stands = one_product w.stands;
    worth = w.worth;
    follows = λ K ok e place k.
        w.follows K (runs.fresh_no_product K ok) e place k ∙ levels.first_part K w.tree _ (runs.not_added K ok w.tree);
  }

  module _ {at end place from : ℕ} {all : Value} (a : SummandsStand s p at end all) (b : Skipped s end place) (f : Skipped s (place + 1) from) where
    beyond_sign : at < from
    beyond_sign = omega (arith, a.reach, b.blanks.order, f.blanks.order)

    after_plus : At s place 43 → (K : Context) → Fresh K → after s at ≡ wants K → after s from ≡ wants (machine.sum K a.tree)
    after_plus i K ok g = runs.plus_runs (runs.expression_runs a.stands K ok g) (between b i f)

    after_minus : At s place 45 → (K : Context) → Fresh K → after s at ≡ wants K → after s from ≡ wants (machine.difference K a.tree)
    after_minus i K ok g = runs.minus_runs (runs.expression_runs a.stands K ok g) (between b i f)

    pub summands_more : (sign : Sign) → At s place (sign_byte sign) → {next : ℕ} {part q : Value} → ProductStands s p from next part
        → SignedSum p sign all part q → SummandsStand s p at next q
    summands_more Plus i h o = record {
      reach = omega (arith, beyond_sign, h.reach);
      within = h.within;
      tree = plus a.tree h.tree;
      stands = sum a.stands (between b i f) h.stands;
      worth = o.worth a.tree h.tree a.worth h.worth;
      follows = λ K ok g place k. h.follows (machine.sum K a.tree) tt (after_plus i K ok g) place k ∙ levels.next_plus K h.tree _ a.tree;
    }
    summands_more Minus i h o = record {
      reach = omega (arith, beyond_sign, h.reach);
      within = h.within;
      tree = minus a.tree h.tree;
      stands = difference a.stands (between b i f) h.stands;
      worth = o.worth a.tree h.tree a.worth h.worth;
      follows = λ K ok g place k. h.follows (machine.difference K a.tree) tt (after_minus i K ok g) place k ∙ levels.next_minus K h.tree _ a.tree;
    }

    pub halts_summand : (sign : Sign) → At s place (sign_byte sign) → {e : Refused} → HaltsAt NoProduct s from e → HaltsAt Fresh s at e
    halts_summand Plus i = inside (halts_from (omega (arith, beyond_sign)) (λ K ok g. (machine.sum K a.tree, tt, after_plus i K ok g)))
    halts_summand Minus i = inside (halts_from (omega (arith, beyond_sign)) (λ K ok g. (machine.difference K a.tree, tt, after_minus i K ok g)))

  pub expression_done : {at end place sign : ℕ} {all : Value} → SummandsStand s p at end all → Skipped s end place → ByteAt s place sign
      → (sign ≢ 43) × (sign ≢ 45) → ExpressionStands s p at end all
  expression_done a b c d = record {
    reach = a.reach;
    within = a.within;
    tree = a.tree;
    stands = a.stands;
    worth = a.worth;
    follows = λ K ok g place k. a.follows K ok g place k
        ∙ levels.parts_done K a.tree _ (λ z. d.0 (sym (sign_is k b c) ∙ z)) (λ z. d.1 (sym (sign_is k b c) ∙ z));
  }
