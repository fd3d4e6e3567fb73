-- The code's structs as the records of the specification (`as_part`), and the parts that the code makes of its arrays (`one_factor`, `two_factors`).
-- Assumes nothing.
use Rattle.std.specs.Prelude.{List, [], ◌∷◌, ℕ, Option, Some, None}
use Rattle.specification.specs.Parts as parts
use Rattle.arrays.specs.Listed.{listed}
use Rattle.part_verdict.specs.declared.Verdict.{Verdict}
use Rattle.part_verdict.specs.declared.Verdict.TheVariants.{Basic, Solid, Power, Split}
use Rattle.part_verdict.specs.declared.Factor.{Factor}
use Rattle.part_verdict.specs.declared.Part.{Part}

-- verdicts 1, 2, 3 and 4
abbrev pub as_verdict : Verdict → parts.Verdict
as_verdict Basic = parts.basic
as_verdict Solid = parts.solid
as_verdict Power = parts.power
as_verdict (Split k) = parts.split k

abbrev pub as_factor : Factor → parts.Factor
as_factor q = record { poly = listed q.degree q.coefs; times = q.times }

-- the first factor, and the second if there is one
abbrev pub as_factors : Factor → Option Factor → List parts.Factor
as_factors a None = as_factor a ∷ []
as_factors a (Some b) = as_factor a ∷ as_factor b ∷ []

abbrev pub as_part : Part → parts.Part
as_part a = record {
  base = listed a.degree a.base;
  exponent = a.exponent;
  splitting = record { verdict = as_verdict a.verdict; factors = as_factors a.first a.second };
}

-- a part with one factor
abbrev pub one_factor : List ℕ → ℕ → ℕ → Verdict → List ℕ → ℕ → ℕ → Part
one_factor base d m v q e t = record {
  base = base;
  degree = d;
  exponent = m;
  verdict = v;
  first = record { coefs = q; degree = e; times = t };
  second = None;
}

-- item 9: g, k times, and q once
abbrev pub two_factors : List ℕ → List ℕ → ℕ → ℕ → ℕ → List ℕ → ℕ → Part
two_factors base g d m k q e = record {
  base = base;
  degree = d;
  exponent = m;
  verdict = Split k;
  first = record { coefs = g; degree = d; times = k };
  second = Some (record { coefs = q; degree = e; times = 1 });
}
