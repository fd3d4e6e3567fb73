-- A copy fits the answer area of 384 bytes, and every byte of it is below 256.
-- Proves it of figures with few and small pairs, as those of parts are in any order, and so of a good sheet's. Assumes nothing.
use Rattle.std.specs.Prelude.{◌≡◌, true, ◌≤◌}
use Rattle.std.proofs.Common.{arith}
use Rattle.std.proofs.Math.ListN.{length}
use Rattle.specification.specs.Limits.{taken, degree_limit, ◌²}
use Rattle.specification.specs.Sheets.{Sheet}
use Rattle.specification.specs.Copy.{pairs_of, Figures, figures_of, copy_of}
use Rattle.specification.specs.CopyClaims.{copy}
use Rattle.specification.specs.SheetClaims.{Fits, GoodSheet}
use Rattle.lists.specs.Tests.{passes}
use Rattle.lists.specs.Members.{All}
use Rattle.algebra.specs.TakenPrimes.{fits_byte}
use Rattle.items.specs.PartShapes.{part_degrees, PartShape}
use Rattle.layouts.specs.CommandBytes.{Byte}
use Rattle.layouts.specs.AnswerLayout.{sheet_parts}
use Rattle.copies.specs.SortedPairs.{sorts}
use Rattle.copies.specs.CopySize.{BytePair, copy_length, copy_bytes, sorted_few, sorted_small}

module _ (g : Figures) where
  figures_fit : Byte g.prime → Byte g.degree → length g.pairs ≤ degree_limit → All BytePair g.pairs → Fits (copy_of g)
  figures_fit k l few h = record { short = copy_length g few; low = copy_bytes g k l h }

-- ---- a sheet's copy

pub copy_fits : (s : Sheet) → GoodSheet s → All (PartShape (s.prime ²)) (sheet_parts s) → part_degrees (sheet_parts s) ≤ degree_limit → Fits (copy s)
unfolding figures_of
copy_fits s g shapes fits =
    let t : taken s.prime ≡ true = passes (taken s.prime) g.prime in
    let pairs-sorted = (sorts (pairs_of (sheet_parts s))).holds in
    figures_fit (figures_of s) (fits_byte t) (omega (arith, g.fits)) (omega (arith, sorted_few pairs-sorted shapes, fits))
    (sorted_small pairs-sorted shapes (omega (arith, fits)))
