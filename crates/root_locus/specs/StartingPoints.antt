-- The starting points of the root search: a table of 30 pairs that was read once from the Rust. Definitions only.
use Rattle.std.specs.Prelude.{ℕ, ◌+◌, ◌*◌, ◌^◌, ◌≤◌, cond, T, List, [], ◌∷◌, ◌==◌, from_bits, slice_index_or, Float}
use Rattle.std.specs.Float.{nan, binary64}
use Rattle.std.specs.Float.Ieee.Scale.{finite}
use Rattle.laws.specs.Loops.{up_to}
use Rattle.scalar.specs.Sqrt.{in_units}
use Rattle.complex.specs.declared.Complex.{Complex}
use Rattle.complex.specs.Complex.{new_of}

-- a cosine and a sine by their bits
unfoldable pub pair : ℕ → ℕ → List Float
pair c s = from_bits binary64 c ∷ from_bits binary64 s ∷ []

-- cosine and sine of 2π·i / degree for i below the degree, for the degrees 4 to 8 one after the other
unfoldable pub start_table : List (List Float)
unfolding pair
start_table =
    -- degree 4
    pair 0x3ff0_0000_0000_0000 0x0000_0000_0000_0000 ∷
    pair 0x3c91_a626_3314_5c07 0x3ff0_0000_0000_0000 ∷
    pair 0xbff0_0000_0000_0000 0x3ca1_a626_3314_5c07 ∷
    pair 0xbcaa_7939_4c9e_8a0a 0xbff0_0000_0000_0000 ∷
    -- degree 5
    pair 0x3ff0_0000_0000_0000 0x0000_0000_0000_0000 ∷
    pair 0x3fd3_c6ef_372f_e950 0x3fee_6f0e_1344_54ff ∷
    pair 0xbfe9_e377_9b97_f4a7 0x3fe2_cf23_0475_5a5f ∷
    pair 0xbfe9_e377_9b97_f4a9 0xbfe2_cf23_0475_5a5d ∷
    pair 0x3fd3_c6ef_372f_e94c 0xbfee_6f0e_1344_5500 ∷
    -- degree 6
    pair 0x3ff0_0000_0000_0000 0x0000_0000_0000_0000 ∷
    pair 0x3fe0_0000_0000_0001 0x3feb_b67a_e858_4caa ∷
    pair 0xbfdf_ffff_ffff_fffc 0x3feb_b67a_e858_4cab ∷
    pair 0xbff0_0000_0000_0000 0x3ca1_a626_3314_5c07 ∷
    pair 0xbfe0_0000_0000_0004 0xbfeb_b67a_e858_4ca8 ∷
    pair 0x3fe0_0000_0000_0001 0xbfeb_b67a_e858_4caa ∷
    -- degree 7
    pair 0x3ff0_0000_0000_0000 0x0000_0000_0000_0000 ∷
    pair 0x3fe3_f3a0_e28b_edd2 0x3fe9_04c3_7505_de4b ∷
    pair 0xbfcc_7b90_e302_4580 0x3fef_329c_0558_e969 ∷
    pair 0xbfec_d4bc_a9cb_5c70 0x3fdb_c4c0_4d71_abc3 ∷
    pair 0xbfec_d4bc_a9cb_5c71 0xbfdb_c4c0_4d71_abbf ∷
    pair 0xbfcc_7b90_e302_4589 0xbfef_329c_0558_e969 ∷
    pair 0x3fe3_f3a0_e28b_edd0 0xbfe9_04c3_7505_de4c ∷
    -- degree 8
    pair 0x3ff0_0000_0000_0000 0x0000_0000_0000_0000 ∷
    pair 0x3fe6_a09e_667f_3bcd 0x3fe6_a09e_667f_3bcc ∷
    pair 0x3c91_a626_3314_5c07 0x3ff0_0000_0000_0000 ∷
    pair 0xbfe6_a09e_667f_3bcc 0x3fe6_a09e_667f_3bcd ∷
    pair 0xbff0_0000_0000_0000 0x3ca1_a626_3314_5c07 ∷
    pair 0xbfe6_a09e_667f_3bce 0xbfe6_a09e_667f_3bcc ∷
    pair 0xbcaa_7939_4c9e_8a0a 0xbff0_0000_0000_0000 ∷
    pair 0x3fe6_a09e_667f_3bcb 0xbfe6_a09e_667f_3bce ∷
    []

-- a pair as a complex number
unfoldable pub as_complex : List Float → Complex
as_complex p = new_of (slice_index_or p 0 nan) (slice_index_or p 1 nan)

-- where the pairs of a degree begin
unfoldable pub first_point : ℕ → ℕ
first_point d = cond (d == 8) 22 (cond (d == 7) 15 (cond (d == 6) 9 (cond (d == 5) 4 0)))

-- starting point i of degree d
unfoldable pub starting_point : ℕ → ℕ → Complex
starting_point d i = as_complex (slice_index_or start_table (first_point d + i) [])

-- the starting points of degree d, as many as the degree
unfoldable pub starting_points : ℕ → List Complex
starting_points d = up_to (starting_point d) d

-- ---- the table's rule

-- the squares of both parts in squared units, of 2 ^ -2148
unfoldable pub squares : Complex → ℕ
squares z = in_units z.re * in_units z.re + in_units z.im * in_units z.im

-- Both parts are finite, and their squares, as exact numbers, sum to within 2 ^ -50 of 1.
pub record NearUnit (z : Complex) : Type 0 where
  pub finite_re : T (finite z.re)
  pub finite_im : T (finite z.im)
  pub least : 2 ^ 2148 ≤ squares z + 2 ^ 2098
  pub most : squares z ≤ 2 ^ 2148 + 2 ^ 2098
