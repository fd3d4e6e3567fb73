-- `unfolding everything` opens all definitions at once, to compute with them.
-- The tables of `Trials`, `Edges` and others are worked with it; a proof opens only what it needs.
use mathlib.Core.List.{flat_map}
use Rattle.specification.specs.Lists.{all_pass, any_passes, first, up_from, below, same}
use Rattle.specification.specs.Limits.{primes, taken}
use Rattle.specification.specs.Polynomials.{is_zero, plus, multiple, shift, times, reduce, add, scale, sub, mul, pow, product, lift}
use Rattle.specification.specs.Polynomials.{without_top, remainder, quotients, quotient, divides}
use Rattle.specification.specs.Inverses.{inverse}
use Rattle.specification.specs.Records.{proper, trim, pad, prime_number, pair_number, product_number, division_number}
use Rattle.specification.specs.Records.{constant, sum, difference, product_of, division}
use Rattle.specification.specs.Powers.{polynomials, monics, monics_to, highest, listed, powers_among, powers, lifts, primary}
use Rattle.specification.specs.Parts.{h_bar, m1, w, u, splitting, parts_of}
use Rattle.specification.specs.Algorithm45.{algorithm45}
use Rattle.specification.specs.Totals.{members, list_of, different, free_digits}
use Rattle.specification.specs.Commands.{bytes_of, operand_count, commands_after, first_with, has}
use Rattle.specification.specs.Reading.{done, go_on, ◌>>=◌, judged, on_next, byte, two_byte_number, command_byte, with_operand, flag}
use Rattle.specification.specs.Coefficients.{coefficient_commands, coefficients}
use Rattle.specification.specs.RunLength.{power_less_one, run_length, has_run, pulse, pulses}
use Rattle.specification.specs.Sheets.{sheet, whole, read_sheet, head_commands, last_commands, sheet_commands, sheet_bytes}
use Rattle.specification.specs.Answers.{factor_commands, part_commands, run_commands, end_commands, answer_commands, answer}
use Rattle.specification.specs.FactorList.{with_coefficients, factors_in, factor_list, factor_total, different_total, free_total, run_in}
use Rattle.specification.specs.Calls.{answer_to, split_call, sheet_in, is_answer_to, read_call}
use Rattle.specification.specs.Copy.{insert, sorted, pairs_of, figures_of, copy_commands, copy_of, visible, shown, copy_call}
use Rattle.specification.specs.TypedLines.{meaning, any_part, is_large, is_high, is_pattern, valued, worked}
use Rattle.specification.specs.Text.{last_digits, decimal, head_text, coefficient_text, factor_text, part_text, total_text, parts_text, answer_text}
use Rattle.specification.specs.Text.{run_text, refusal_text, printed, copied, sent}

unfoldable pub everything : Unit {0}
unfolding
    flat_map
    all_pass any_passes first up_from below same
    primes taken
    is_zero plus multiple shift times reduce add scale sub mul pow product lift
    without_top remainder quotients quotient divides
    inverse
    proper trim pad prime_number pair_number product_number division_number
    constant sum difference product_of division
    polynomials monics monics_to highest listed powers_among powers lifts primary
    h_bar m1 w u splitting parts_of
    algorithm45
    members list_of different free_digits
    bytes_of operand_count commands_after first_with has
    done go_on ◌>>=◌ judged on_next byte two_byte_number command_byte with_operand flag
    coefficient_commands coefficients
    power_less_one run_length has_run pulse pulses
    sheet whole read_sheet head_commands last_commands sheet_commands sheet_bytes
    factor_commands part_commands run_commands end_commands answer_commands answer
    with_coefficients factors_in factor_list factor_total different_total free_total run_in
    answer_to split_call sheet_in is_answer_to read_call
    insert sorted pairs_of figures_of copy_commands copy_of visible shown copy_call
    meaning any_part is_large is_high is_pattern valued worked
    last_digits decimal head_text coefficient_text factor_text part_text total_text parts_text answer_text run_text refusal_text printed copied sent
everything = tt
