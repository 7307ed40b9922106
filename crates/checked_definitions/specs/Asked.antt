-- Cases that the Rust was asked about, with its answers; a float is given by its bits. Refusals that the Rust does not have are document 01's.
-- Written by tools/oracle/run, which can also compare it with what it would write now. Definitions only.
use Rattle.std.specs.Prelude.{ℕ, List, [], ◌∷◌, ◌++◌, map, replicate, Float}
use Rattle.std.specs.Float.{binary64}
use Rattle.std.specs.Float.Ieee.{of_bits}
use Rattle.laws.specs.Outcome.{Outcome, found, none, refused}
use Rattle.sweep.specs.Answer.{not_kept}
use Rattle.sweep.specs.Runs.{start, feed, join}
use Rattle.transfer_fn.specs.declared.TransferFn.{TransferFn}
use Rattle.sensitivity.specs.declared.LoopShaping.{LoopShaping}
use Rattle.worked_cases.specs.Cases.{Bode, Sensitivity, Curve, sqrt, multiply, divide, reciprocal, magnitude, eval_tf_complex, loop_gain_at, sensitivity_at, comp_sensitivity_at, control_sensitivity_at, start_at, locus_point, locus_ending, stability_region, gain_crossover, phase_crossover, gain_margin, phase_margin, sensitivity_crossover, bandwidth, distance_to_critical, gain_grid, frequency_grid, gain_of_summary, phase_of_summary, crossover_of_summary, bandwidth_of_summary, approach_of_summary, Row, ◌gives◌}

abbrev bits : ℕ → Float
bits n = of_bits binary64 n

abbrev floats : List ℕ → List Float
floats l = map bits l

-- the number of a call, and a lent list as the call leaves it
abbrev leaves : ℕ → List Float → Outcome
leaves n l = record { number = n; values = l }

-- ---- square roots of subnormals, of numbers beside an exact square, of numbers beside the square of a point midway between two floats

unfoldable pub square_roots : List Row
unfolding of_bits
square_roots =
    (sqrt (bits 0x0000_0000_0000_0003) gives found (floats (0x1e6b_b67a_e858_4caa ∷ []))) ∷
    (sqrt (bits 0x000c_3cd7_f43c_6661) gives found (floats (0x1ffb_fc64_4952_c3ba ∷ []))) ∷
    (sqrt (bits 0x000f_ffff_ffff_ffff) gives found (floats (0x1fff_ffff_ffff_ffff ∷ []))) ∷
    (sqrt (bits 0x0010_0000_0000_0000) gives found (floats (0x2000_0000_0000_0000 ∷ []))) ∷
    (sqrt (bits 0x7fef_ffff_ffff_ffff) gives found (floats (0x5fef_ffff_ffff_ffff ∷ []))) ∷
    (sqrt (bits 0x7ff0_0000_0000_0000) gives found (floats (0x7ff0_0000_0000_0000 ∷ []))) ∷
    (sqrt (bits 0x8000_0000_0000_0001) gives found (floats (0x7ff8_0000_0000_0000 ∷ []))) ∷
    (sqrt (bits 0x7ff8_0000_0000_0000) gives found (floats (0x7ff8_0000_0000_0000 ∷ []))) ∷
    (sqrt (bits 0x3fef_ffff_ffff_ffff) gives found (floats (0x3fef_ffff_ffff_ffff ∷ []))) ∷
    (sqrt (bits 0x3ff0_0000_0000_0000) gives found (floats (0x3ff0_0000_0000_0000 ∷ []))) ∷
    (sqrt (bits 0x3ff0_0000_0000_0001) gives found (floats (0x3ff0_0000_0000_0000 ∷ []))) ∷
    (sqrt (bits 0x39a5_0826_0e4d_4df1) gives found (floats (0x3cc9_f14e_57ff_ffff ∷ []))) ∷
    (sqrt (bits 0x39a5_0826_0e4d_4df2) gives found (floats (0x3cc9_f14e_5800_0000 ∷ []))) ∷
    (sqrt (bits 0x39a5_0826_0e4d_4df3) gives found (floats (0x3cc9_f14e_5800_0001 ∷ []))) ∷
    (sqrt (bits 0x7846_5a09_6e01_1bee) gives found (floats (0x5c1a_be86_cbbe_aa11 ∷ []))) ∷
    (sqrt (bits 0x7846_5a09_6e01_1bef) gives found (floats (0x5c1a_be86_cbbe_aa12 ∷ []))) ∷
    (sqrt (bits 0x44a9_fca9_8a23_104a) gives found (floats (0x424c_d651_3d02_befe ∷ []))) ∷
    (sqrt (bits 0x44a9_fca9_8a23_104b) gives found (floats (0x424c_d651_3d02_beff ∷ []))) ∷
    (sqrt (bits 0x7658_184b_27d9_e07d) gives found (floats (0x5b23_a276_8879_5369 ∷ []))) ∷
    (sqrt (bits 0x7658_184b_27d9_e07e) gives found (floats (0x5b23_a276_8879_536a ∷ []))) ∷
    []

-- ---- complex numbers that are moderate, huge and tiny; zeros of either sign, infinities; divisors with squared magnitude eps or next to it

unfoldable pub complex_numbers : List Row
unfolding of_bits
complex_numbers =
    (multiply (bits 0x4022_651c_4c9e_6298, bits 0x4020_b885_42e3_9ae4) (bits 0x401d_b4df_db72_f070, bits 0x401d_1ee0_7e13_8db4) gives found (floats (0x401d_c400_44f3_4018 ∷ 0x4060_218e_937c_706e ∷ []))) ∷
    (multiply (bits 0xb7ae_5d00_6cd3_d6af, bits 0xd4ae_b00e_4c9c_9e35) (bits 0xcce0_6798_004b_bc2f, bits 0x49fd_6717_a91d_279d) gives found (floats (0x5ebc_326a_542c_8f9d ∷ 0x619f_76bf_31c2_e871 ∷ []))) ∷
    (multiply (bits 0x8000_0000_0000_0000, bits 0x0000_0000_0000_0000) (bits 0xbff8_0000_0000_0000, bits 0x8000_0000_0000_0000) gives found (floats (0x0000_0000_0000_0000 ∷ 0x0000_0000_0000_0000 ∷ []))) ∷
    (multiply (bits 0x7ff0_0000_0000_0000, bits 0x3ff0_0000_0000_0000) (bits 0xc000_0000_0000_0000, bits 0x7fef_ffff_ffff_ffff) gives found (floats (0xfff0_0000_0000_0000 ∷ 0x7ff0_0000_0000_0000 ∷ []))) ∷
    (divide (bits 0xbff8_648e_1c87_1950, bits 0x4020_1a01_92e6_9388) (bits 0x4022_69c4_e001_14f4, bits 0xc020_eec8_afd0_55e0) gives found (floats (0xbfe0_d03c_2203_99fc ∷ 0x3fd9_0ad0_2588_9b6e ∷ []))) ∷
    (divide (bits 0xafff_52ff_df83_4b47, bits 0xa11c_5aca_8c44_8a78) (bits 0x42a8_4fda_effa_95c8, bits 0xd036_7bb2_bf52_8e01) gives found (floats (0x9228_1ad3_db69_3b3a ∷ 0x9fb6_4aa9_5d59_9886 ∷ []))) ∷
    (divide (bits 0x8000_0000_0000_0000, bits 0x0000_0000_0000_0000) (bits 0xbff8_0000_0000_0000, bits 0x8000_0000_0000_0000) gives found (floats (0x0000_0000_0000_0000 ∷ 0x8000_0000_0000_0000 ∷ []))) ∷
    (divide (bits 0x7ff0_0000_0000_0000, bits 0x3ff0_0000_0000_0000) (bits 0xc000_0000_0000_0000, bits 0x7fef_ffff_ffff_ffff) gives found (floats (0x7ff8_0000_0000_0000 ∷ 0x7ff8_0000_0000_0000 ∷ []))) ∷
    (reciprocal (bits 0x4001_1554_f759_b378, bits 0xc020_f862_2184_b34a) gives found (floats (0x3f9c_8ffd_bae9_302c ∷ 0x3fbc_5f97_2f9d_76bc ∷ []))) ∷
    (reciprocal (bits 0xabb4_f048_89d2_0de1, bits 0x273c_42d4_094b_9c40) gives none) ∷
    (reciprocal (bits 0x8000_0000_0000_0000, bits 0x0000_0000_0000_0000) gives none) ∷
    (reciprocal (bits 0x7ff0_0000_0000_0000, bits 0x3ff0_0000_0000_0000) gives found (floats (0x7ff8_0000_0000_0000 ∷ 0x8000_0000_0000_0000 ∷ []))) ∷
    (magnitude (bits 0x401a_3b79_2efa_169c, bits 0x401b_a0c4_31aa_03d0) gives found (floats (0x4023_0c83_ec75_1335 ∷ []))) ∷
    (magnitude (bits 0x4788_7a47_c025_a152, bits 0xd292_510f_bb0e_c12b) gives found (floats (0x5292_510f_bb0e_c12b ∷ []))) ∷
    (magnitude (bits 0x8000_0000_0000_0000, bits 0x0000_0000_0000_0000) gives found (floats (0x0000_0000_0000_0000 ∷ []))) ∷
    (magnitude (bits 0x7ff0_0000_0000_0000, bits 0x3ff0_0000_0000_0000) gives found (floats (0x7ff0_0000_0000_0000 ∷ []))) ∷
    (reciprocal (bits 0xbe30_9098_6657_6c68, bits 0x3e4e_e8d9_b576_6e1e) gives none) ∷
    (divide (bits 0x3ff7_f344_3bd4_5412, bits 0x8000_0000_0000_0000) (bits 0xbe30_9098_6657_6c68, bits 0x3e4e_e8d9_b576_6e1e) gives none) ∷
    (reciprocal (bits 0xbe29_32da_7ec1_64a0, bits 0x3e4f_5fb0_3f22_da89) gives found (floats (0xc169_32da_7ec1_64a0 ∷ 0xc18f_5fb0_3f22_da89 ∷ []))) ∷
    (divide (bits 0xbfc2_b842_775b_3480, bits 0x8000_0000_0000_0000) (bits 0xbe29_32da_7ec1_64a0, bits 0x3e4f_5fb0_3f22_da89) gives found (floats (0x413d_7b67_4d0a_690f ∷ 0x4162_5a7a_834f_688f ∷ []))) ∷
    (reciprocal (bits 0x3e42_fcfd_3084_2aba, bits 0x3e49_c1e8_f8f6_3071) gives found (floats (0x4182_fcfd_3084_2ab9 ∷ 0xc189_c1e8_f8f6_306f ∷ []))) ∷
    (divide (bits 0x3ff1_c8b4_5b63_0fc2, bits 0x8000_0000_0000_0000) (bits 0x3e42_fcfd_3084_2aba, bits 0x3e49_c1e8_f8f6_3071) gives found (floats (0x4185_1afd_6aff_b360 ∷ 0xc18c_a121_c148_dfdd ∷ []))) ∷
    []

-- ---- evaluation and responses of several orders; 1 + L and denominators that are 0, below eps in square, eps; an infinite gain; refusals

abbrev loop1 : LoopShaping
loop1 =
    record {
      plant = record { b = floats (0x3fff_09be_7a71_f708 ∷ 0x3e50_0000_0000_0000 ∷ 0x7ff8_0000_0000_0000 ∷ 0xffff_ffff_ffff_ffff ∷ 0xffef_ffff_ffff_ffff ∷ 0x507f_0222_c166_cbc6 ∷ 0x5386_7f8a_1972_b8d6 ∷ 0xfff8_0000_0000_0000 ∷ []); a = floats (0x3fbd_0fbd_7d81_d4a2 ∷ 0xffff_ffff_ffff_ffff ∷ 0x1122_50ec_2d7a_dd89 ∷ 0x7ff4_0000_dead_beef ∷ 0x9218_2924_107e_abd6 ∷ 0x7fff_ffff_ffff_ffff ∷ 0xf2f8_18c5_0e5c_3279 ∷ 0xffff_ffff_ffff_ffff ∷ []); order = 1 };
      controller = record { b = floats (0xbfe5_85a0_4123_8168 ∷ 0xbf39_b317_14ec_5082 ∷ 0xa961_07cc_0a7d_fd66 ∷ 0x7ff0_0000_0000_0001 ∷ 0x3e50_0000_0000_0000 ∷ 0x7ff0_0000_0000_0001 ∷ 0x7ff0_0000_0000_0001 ∷ 0xbff8_0000_0000_0000 ∷ []); a = floats (0x3fbd_b9fb_36a7_3ac0 ∷ 0xbff8_0000_0000_0000 ∷ 0x7fff_ffff_ffff_ffff ∷ 0x641c_6d76_d555_caa7 ∷ 0x8000_0000_0000_0000 ∷ 0xb24a_bef4_3b2f_3490 ∷ 0x20ff_40a0_ffee_2dfa ∷ 0x3ff0_0000_0000_0000 ∷ []); order = 1 };
    }

abbrev cosines1 : List Float
cosines1 = floats (0x3ff0_0000_0000_0000 ∷ 0x3fbf_9d94_3d54_3639 ∷ 0xbfef_061d_467f_22a7 ∷ 0xbfd7_3abe_1929_eb6d ∷ 0x3fec_27b3_c757_1664 ∷ 0x3fe2_91a5_e4c3_de20 ∷ 0xbfe7_9191_7327_9d5c ∷ 0xbfe8_63ea_f6a9_c2c7 ∷ 0x3fe1_8b57_be00_9cdc ∷ 0x3fec_b943_71d2_5bea ∷ 0xbfd4_e639_cf79_c61d ∷ [])

abbrev sines1 : List Float
sines1 = floats (0x8000_0000_0000_0000 ∷ 0xbfef_c149_deb9_01c8 ∷ 0xbfcf_5f9e_fd01_a184 ∷ 0x3fed_d157_d6c0_d0ec ∷ 0x3fde_6aa0_a6ae_eb51 ∷ 0xbfea_0fb5_611d_1f10 ∷ 0xbfe5_a533_b3fb_faf4 ∷ 0x3fe4_b70d_28b8_94e6 ∷ 0x3fea_c309_6790_b5b2 ∷ 0xbfdc_35bd_538a_27a1 ∷ 0xbfee_3ee8_9f9e_3641 ∷ [])

abbrev loop2 : LoopShaping
loop2 =
    record {
      plant = record { b = floats (0x3ff9_6d71_2a8d_4e7c ∷ 0xbfed_a999_46af_ae60 ∷ 0x3fe1_c803_eabe_1a5c ∷ 0x0000_0000_0000_0001 ∷ 0xfff0_0000_0000_0001 ∷ 0x33ba_f8a1_7760_b026 ∷ 0x7fff_ffff_ffff_ffff ∷ 0x4d9a_06b9_fd85_adbb ∷ []); a = floats (0xbfba_1579_a4d0_9008 ∷ 0x3f9e_b16c_871e_5908 ∷ 0xbfbb_2e07_d2e6_f140 ∷ 0x4069_06b2_ef95_31a9 ∷ 0x561e_1792_1248_5cb3 ∷ 0x80b8_5003_bbf8_8ebf ∷ 0x5a0d_ba92_f77d_5387 ∷ 0x4a90_4196_6843_4c76 ∷ []); order = 3 };
      controller = record { b = floats (0xbfd8_0c18_d214_d7e0 ∷ 0x3fd1_ca9d_a2b6_c920 ∷ 0x7ff0_0000_0000_0000 ∷ 0x2d3d_10f8_d80b_e3e3 ∷ 0xe11e_120b_3dbb_ca83 ∷ 0x7ff0_0000_0000_0001 ∷ 0x7ff8_0000_0000_0000 ∷ 0x7ff8_0000_0000_0000 ∷ []); a = floats (0xbfb0_ea7d_c1a0_fdc6 ∷ 0x3fba_1e8e_4c96_0270 ∷ 0x21af_8dbc_d382_48ec ∷ 0x3cb0_0000_0000_0000 ∷ 0x7ff0_0000_0000_0000 ∷ 0x3a08_9e6b_5c40_ecfc ∷ 0xffef_ffff_ffff_ffff ∷ 0x7ff4_0000_dead_beef ∷ []); order = 2 };
    }

abbrev cosines2 : List Float
cosines2 = floats (0x3ff0_0000_0000_0000 ∷ 0x3fdc_c906_0633_342c ∷ 0xbfe3_0da3_50bb_af90 ∷ 0xbfef_8823_29d0_9929 ∷ 0xffff_ffff_ffff_ffff ∷ 0x647a_5533_53a6_7bde ∷ 0xb51c_f602_feac_3b2c ∷ 0xfff8_0000_0000_0000 ∷ 0xfff0_0000_0000_0001 ∷ 0x7ff4_0000_dead_beef ∷ 0x7ff0_0000_0000_0000 ∷ 0xffff_ffff_ffff_ffff ∷ [])

abbrev sines2 : List Float
sines2 = floats (0x8000_0000_0000_0000 ∷ 0xbfec_94a4_1f65_8624 ∷ 0xbfe9_b59a_a3c6_6b3a ∷ 0x3fc5_d0ed_16ec_0bce ∷ 0x3e50_0000_0000_0000 ∷ 0x7ff8_0000_0000_0000 ∷ 0xe8f3_8337_4086_abfc ∷ 0x9196_3723_bc70_2870 ∷ 0xbff8_0000_0000_0000 ∷ 0x06b2_49c2_f918_b1fd ∷ 0xfff8_0000_0000_0000 ∷ 0x7ff8_0000_0000_0000 ∷ [])

abbrev loop3 : LoopShaping
loop3 =
    record {
      plant = record { b = floats (0x3cb0_0000_0000_0000 ∷ 0x9add_aebe_85a3_4e6c ∷ 0xbff8_0000_0000_0000 ∷ 0x0bc7_0f20_da2e_eb9c ∷ 0x83be_da81_e5d1_4efe ∷ 0xbe50_0000_0000_0000 ∷ 0x7ff4_0000_dead_beef ∷ 0x3cb0_0000_0000_0000 ∷ []); a = floats (0xbff8_0000_0000_0000 ∷ 0x3ff0_0000_0000_0000 ∷ 0xffff_ffff_ffff_ffff ∷ 0xb138_ec39_f0ea_0a5d ∷ 0xfff8_0000_0000_0000 ∷ 0x3e50_0000_0000_0000 ∷ 0x800f_ffff_ffff_ffff ∷ 0x7ff8_0000_0000_0000 ∷ []); order = 0 };
      controller = record { b = floats (0xbfeb_ec99_47a0_925c ∷ 0x3ff5_d8a5_dc4e_389c ∷ 0xbfe9_ccd9_a8d0_1840 ∷ 0x3fd2_d719_0077_0238 ∷ 0x1546_0607_7657_d092 ∷ 0x7fff_ffff_ffff_ffff ∷ 0x7ff4_0000_dead_beef ∷ 0xfff8_0000_0000_0000 ∷ []); a = floats (0x3f70_5b1b_1c2c_e580 ∷ 0xbfba_a081_5838_c29a ∷ 0xbfb8_4ac3_7240_5f56 ∷ 0xbfb6_146b_f43e_13f0 ∷ 0xbe50_0000_0000_0000 ∷ 0x4065_f507_b95f_e4d4 ∷ 0xfe23_8397_d959_5103 ∷ 0xffef_ffff_ffff_ffff ∷ []); order = 4 };
    }

abbrev cosines3 : List Float
cosines3 = floats (0x3ff0_0000_0000_0000 ∷ 0xbfeb_ea52_e944_5273 ∷ 0x3fe0_b43f_8e1b_48f4 ∷ 0xbfa3_a7b0_755f_1a7a ∷ 0xbfdd_1f24_999f_2851 ∷ 0x3fea_a201_18ae_50e4 ∷ [])

abbrev sines3 : List Float
sines3 = floats (0x8000_0000_0000_0000 ∷ 0xbfdf_49b9_4f8b_09ee ∷ 0x3feb_4b50_8731_6f80 ∷ 0xbfef_f9f6_2601_2079 ∷ 0x3fec_7ecc_3c1a_6634 ∷ 0xbfe1_bd54_93a1_4dfc ∷ [])

abbrev loop4 : LoopShaping
loop4 =
    record {
      plant = record { b = floats (0xbff9_f0ac_5248_19d6 ∷ 0xbfd3_89eb_44b4_cf58 ∷ 0x3ff5_c8d4_cd5a_2f0e ∷ 0x3fe9_91eb_49cf_e92c ∷ 0xbff4_8411_0132_3434 ∷ 0x3fff_c277_515d_cda4 ∷ 0xbff7_63dd_075e_b52e ∷ 0xbffb_9f64_e7a1_2732 ∷ []); a = floats (0x3fa1_3382_108d_393c ∷ 0x3fbf_2ed3_eeb3_c856 ∷ 0x3f90_df0f_f346_39f0 ∷ 0x3fba_4bed_b15b_e49e ∷ 0xbf8e_a5e0_0acd_93b0 ∷ 0x3fbe_89f3_8030_9d12 ∷ 0x3fb2_e096_3e8f_c3a8 ∷ 0xbfbc_45a6_fa21_ef26 ∷ []); order = 8 };
      controller = record { b = floats (0x3fe7_e18d_8f07_94dc ∷ 0x3ff8_17b2_a610_8d78 ∷ 0xbfd1_bb5b_d2e8_ab58 ∷ 0xbff4_826b_a78d_4004 ∷ 0xbfe3_9a8d_1526_16fc ∷ 0x800f_ffff_ffff_ffff ∷ 0x3ff0_0000_0000_0000 ∷ 0xffff_ffff_ffff_ffff ∷ []); a = floats (0x3fb6_d444_97f6_d5de ∷ 0x3f85_13bf_d8c7_dc60 ∷ 0xbf9d_ae05_649f_8d30 ∷ 0x3f97_1b82_b77a_0d50 ∷ 0x3fbf_5856_006a_5134 ∷ 0xdebf_485e_3ce1_ba41 ∷ 0x754f_d321_49cb_6ae8 ∷ 0x0000_0000_0000_0001 ∷ []); order = 5 };
    }

abbrev cosines4 : List Float
cosines4 = floats (0x3ff0_0000_0000_0000 ∷ 0x3fec_88aa_ccac_e771 ∷ 0x3fe2_e2e5_2b13_ecff ∷ 0x3fc4_96e1_dc00_3258 ∷ 0xbfd3_69d5_907f_ac99 ∷ 0xbfe6_753c_bf80_089c ∷ 0xbfee_5813_c82a_e372 ∷ 0xbfef_a816_72ed_86bb ∷ 0xbfea_1c7a_2ea9_677e ∷ 0x7fff_ffff_ffff_ffff ∷ 0x7fff_ffff_ffff_ffff ∷ 0x503b_17df_2d00_2563 ∷ [])

abbrev sines4 : List Float
sines4 = floats (0x8000_0000_0000_0000 ∷ 0xbfdc_f863_3a9f_de3a ∷ 0xbfe9_d511_19e0_3287 ∷ 0xbfef_9553_239d_d017 ∷ 0xbfee_7e06_cdbb_4396 ∷ 0xbfe6_cbad_7f57_4271 ∷ 0xbfd4_523e_d70c_f580 ∷ 0x3fc2_b3b2_04c8_01c8 ∷ 0x3fe2_7fad_1108_4f3e ∷ 0xa201_e4a4_592c_7929 ∷ 0x7ff8_0000_0000_0000 ∷ 0xffff_ffff_ffff_ffff ∷ [])

abbrev loop5 : LoopShaping
loop5 =
    record {
      plant = record { b = floats (0x3ff0_0000_0000_0000 ∷ 0xbff8_0000_0000_0000 ∷ 0xfff8_0000_0000_0000 ∷ 0x2e73_127b_21b8_890c ∷ 0xffef_ffff_ffff_ffff ∷ 0x7b6c_830f_cb4c_43a6 ∷ 0xdd2e_d5e2_6d81_c715 ∷ 0x0236_1972_7be1_75e1 ∷ []); a = floats (0x0000_0000_0000_0000 ∷ 0xc1c1_1dca_42b8_fbe8 ∷ 0xfff8_0000_0000_0000 ∷ 0xbe50_0000_0000_0000 ∷ 0x84e9_f7f0_9f4e_8f92 ∷ 0x7ff0_0000_0000_0001 ∷ 0x419e_3ca6_4db6_1164 ∷ 0x1b45_b775_86ac_8ba7 ∷ []); order = 1 };
      controller = record { b = floats (0xbff0_0000_0000_0000 ∷ 0x2476_a814_2b73_e69d ∷ 0x7fff_ffff_ffff_ffff ∷ 0x7fff_ffff_ffff_ffff ∷ 0xb89a_6b82_bcea_7a0a ∷ 0x3ff0_0000_0000_0000 ∷ 0x3e50_0000_0000_0000 ∷ 0xffff_ffff_ffff_ffff ∷ []); a = floats (0x0000_0000_0000_0000 ∷ 0x0a61_a249_ae21_64da ∷ 0x7fff_ffff_ffff_ffff ∷ 0xbe50_0000_0000_0000 ∷ 0xfff8_0000_0000_0000 ∷ 0x7ff8_0000_0000_0000 ∷ 0xfff0_0000_0000_0001 ∷ 0x5ff0_0000_0000_0000 ∷ []); order = 1 };
    }

abbrev cosines5 : List Float
cosines5 = floats (0x3ff0_0000_0000_0000 ∷ 0x3ff0_0000_0000_0000 ∷ 0xfff8_0000_0000_0000 ∷ 0xfff8_0000_0000_0000 ∷ 0xfff0_0000_0000_0001 ∷ 0x7ff0_0000_0000_0001 ∷ 0x319e_7410_2c99_1ec5 ∷ 0xbe50_0000_0000_0000 ∷ 0xfff8_0000_0000_0000 ∷ [])

abbrev sines5 : List Float
sines5 = floats (0x8000_0000_0000_0000 ∷ 0x8000_0000_0000_0000 ∷ 0x800f_ffff_ffff_ffff ∷ 0xfff8_0000_0000_0000 ∷ 0x800f_ffff_ffff_ffff ∷ 0x5ff0_0000_0000_0000 ∷ 0x834b_c658_0839_cd0e ∷ 0xfff8_0000_0000_0000 ∷ 0x7ff8_0000_0000_0000 ∷ [])

abbrev loop6 : LoopShaping
loop6 =
    record {
      plant = record { b = floats (0x3ff0_0000_0000_0000 ∷ 0xa563_ae24_5cc4_ad90 ∷ 0x36ba_7030_3549_1570 ∷ 0xffff_ffff_ffff_ffff ∷ 0xd7ce_99db_51e9_ade2 ∷ 0x7ff8_0000_0000_0000 ∷ 0x0000_0000_0000_0001 ∷ 0x2fba_efd2_77f8_004c ∷ []); a = floats (0x0000_0000_0000_0000 ∷ 0x7ff4_0000_dead_beef ∷ 0xfff0_0000_0000_0001 ∷ 0xfc2b_d0e5_e2ef_8135 ∷ 0xbe50_0000_0000_0000 ∷ 0xffff_ffff_ffff_ffff ∷ 0x2951_ccfd_2f5c_fde2 ∷ 0x7ff0_0000_0000_0001 ∷ []); order = 1 };
      controller = record { b = floats (0xbfef_ffff_fa00_0000 ∷ 0x0000_0000_0000_0001 ∷ 0x0010_0000_0000_0000 ∷ 0xefa8_7418_967b_2e29 ∷ 0x7ff0_0000_0000_0001 ∷ 0x34c0_9be3_6948_7645 ∷ 0xdc89_e4e2_cffd_e1f9 ∷ 0xa546_4bd7_810b_bcb8 ∷ []); a = floats (0x0000_0000_0000_0000 ∷ 0xcf35_49a6_0b6c_1b88 ∷ 0x3ff0_0000_0000_0000 ∷ 0x8000_0000_0000_0000 ∷ 0x7ff0_0000_0000_0000 ∷ 0x7ff8_0000_0000_0000 ∷ 0x83fd_1b83_3182_041b ∷ 0xfff8_0000_0000_0000 ∷ []); order = 1 };
    }

abbrev cosines6 : List Float
cosines6 = floats (0x3ff0_0000_0000_0000 ∷ 0x3ff0_0000_0000_0000 ∷ 0x8000_0000_0000_0000 ∷ 0xfff0_0000_0000_0001 ∷ 0x7419_5110_f705_9fdf ∷ 0xdd32_6f29_3d38_12fe ∷ 0x0000_0000_0000_0001 ∷ 0x3e50_0000_0000_0000 ∷ 0xa82c_e917_bfa9_7129 ∷ 0xfff0_0000_0000_0000 ∷ 0x7ff4_0000_dead_beef ∷ [])

abbrev sines6 : List Float
sines6 = floats (0x8000_0000_0000_0000 ∷ 0x8000_0000_0000_0000 ∷ 0x289b_d876_8382_37b2 ∷ 0x5ff0_0000_0000_0000 ∷ 0x7ff8_0000_0000_0000 ∷ 0xfff8_0000_0000_0000 ∷ 0x7ff8_0000_0000_0000 ∷ 0x3e50_0000_0000_0000 ∷ 0x7f97_e4e4_5a32_8ab1 ∷ 0xfff8_0000_0000_0000 ∷ 0x6de5_4fc6_2ab3_749d ∷ [])

abbrev loop7 : LoopShaping
loop7 =
    record {
      plant = record { b = floats (0x3ff0_0000_0000_0000 ∷ 0x7fff_ffff_ffff_ffff ∷ 0xfff0_0000_0000_0000 ∷ 0x8608_30da_9706_fd12 ∷ 0xc05b_5cb0_5f53_9907 ∷ 0xfff0_0000_0000_0000 ∷ 0xcc19_165e_cbb9_500d ∷ 0x7ff4_0000_dead_beef ∷ []); a = floats (0xbfef_ffff_f800_0000 ∷ 0xe0a6_b96d_1478_0d66 ∷ 0xb213_a9a9_d3b5_d446 ∷ 0x7fff_ffff_ffff_ffff ∷ 0xdc15_cf77_ca55_ea8b ∷ 0xffff_ffff_ffff_ffff ∷ 0xffff_ffff_ffff_ffff ∷ 0x8000_0000_0000_0000 ∷ []); order = 1 };
      controller = record { b = floats (0xbfe0_0000_0000_0000 ∷ 0xfff0_0000_0000_0001 ∷ 0xffef_ffff_ffff_ffff ∷ 0x90f9_9799_206d_12ec ∷ 0x4dc2_be6c_51ce_718a ∷ 0x9cea_9ce4_2806_f266 ∷ 0x2591_9ce2_e3a9_f4dd ∷ 0xfff8_0000_0000_0000 ∷ []); a = floats (0x0000_0000_0000_0000 ∷ 0xfff8_0000_0000_0000 ∷ 0x3e50_0000_0000_0000 ∷ 0xffff_ffff_ffff_ffff ∷ 0xec05_29dd_7f86_6cc6 ∷ 0xfff0_0000_0000_0001 ∷ 0x3cb0_0000_0000_0000 ∷ 0xc142_0f82_b1fe_3c9a ∷ []); order = 1 };
    }

abbrev cosines7 : List Float
cosines7 = floats (0x3ff0_0000_0000_0000 ∷ 0x3ff0_0000_0000_0000 ∷ 0x7fff_ffff_ffff_ffff ∷ 0xe153_86ff_2387_8e67 ∷ 0x3e50_0000_0000_0000 ∷ 0xb213_3f69_0767_41c1 ∷ 0xf00e_d839_dc23_47ee ∷ 0x7ff8_0000_0000_0000 ∷ [])

abbrev sines7 : List Float
sines7 = floats (0x8000_0000_0000_0000 ∷ 0x8000_0000_0000_0000 ∷ 0x7fff_ffff_ffff_ffff ∷ 0xbe50_0000_0000_0000 ∷ 0x3ff0_0000_0000_0000 ∷ 0x3460_cea7_e299_7888 ∷ 0x728f_6439_7b20_b29b ∷ 0x5ef0_07bf_3221_2ca1 ∷ [])

abbrev loop8 : LoopShaping
loop8 =
    record {
      plant = record { b = floats (0x3ff0_0000_0000_0000 ∷ 0x7fff_ffff_ffff_ffff ∷ 0x7ff8_0000_0000_0000 ∷ 0x5ff0_0000_0000_0000 ∷ 0x7ff4_0000_dead_beef ∷ 0x7ff8_0000_0000_0000 ∷ 0x2b07_5332_3635_787f ∷ 0xfff8_0000_0000_0000 ∷ []); a = floats (0xbfef_ffff_fa00_0000 ∷ 0xfff0_0000_0000_0001 ∷ 0xe922_98c4_f161_48e9 ∷ 0x7ff0_0000_0000_0001 ∷ 0xc088_e11a_c3e6_bad9 ∷ 0x7ff4_0000_dead_beef ∷ 0x7ff0_0000_0000_0000 ∷ 0x7fff_ffff_ffff_ffff ∷ []); order = 1 };
      controller = record { b = floats (0xbfe0_0000_0000_0000 ∷ 0xfff0_0000_0000_0001 ∷ 0x7ff8_0000_0000_0000 ∷ 0xfff8_0000_0000_0000 ∷ 0x7ff0_0000_0000_0001 ∷ 0x2338_2e53_208b_9a63 ∷ 0x7ff4_0000_dead_beef ∷ 0xacef_5e5b_2d95_27a4 ∷ []); a = floats (0x0000_0000_0000_0000 ∷ 0x0000_0000_0000_0000 ∷ 0xac8c_946a_1a50_a8ee ∷ 0xfff8_0000_0000_0000 ∷ 0x800f_ffff_ffff_ffff ∷ 0x7ff8_0000_0000_0000 ∷ 0x7ff4_0000_dead_beef ∷ 0x6752_02ed_ce58_cc85 ∷ []); order = 1 };
    }

abbrev cosines8 : List Float
cosines8 = floats (0x3ff0_0000_0000_0000 ∷ 0x3ff0_0000_0000_0000 ∷ 0x3ff0_0000_0000_0000 ∷ [])

abbrev sines8 : List Float
sines8 = floats (0x8000_0000_0000_0000 ∷ 0x8000_0000_0000_0000 ∷ 0x8000_0000_0000_0000 ∷ [])

abbrev loop9 : LoopShaping
loop9 =
    record {
      plant = record { b = floats (0x7ff0_0000_0000_0000 ∷ 0xfebb_3a30_4aff_58d0 ∷ 0x7ff4_0000_dead_beef ∷ 0x7fff_ffff_ffff_ffff ∷ 0xbe50_0000_0000_0000 ∷ 0x0000_0000_0000_0001 ∷ 0x6e56_68e9_6aaa_e597 ∷ 0x7fff_ffff_ffff_ffff ∷ []); a = floats (0x0000_0000_0000_0000 ∷ 0xbe50_0000_0000_0000 ∷ 0x0010_0000_0000_0000 ∷ 0x7ff0_0000_0000_0000 ∷ 0x3cb0_0000_0000_0000 ∷ 0x0b23_e344_b1c6_9235 ∷ 0xa4ef_e689_48cb_c78d ∷ 0x3e50_0000_0000_0000 ∷ []); order = 1 };
      controller = record { b = floats (0x3fe0_0000_0000_0000 ∷ 0xbff8_0000_0000_0000 ∷ 0xfff0_0000_0000_0001 ∷ 0xfff0_0000_0000_0000 ∷ 0x7ff0_0000_0000_0000 ∷ 0x5ff0_0000_0000_0000 ∷ 0x7fff_ffff_ffff_ffff ∷ 0x0010_0000_0000_0000 ∷ []); a = floats (0x0000_0000_0000_0000 ∷ 0x0010_0000_0000_0000 ∷ 0x3cb0_0000_0000_0000 ∷ 0xffff_ffff_ffff_ffff ∷ 0x0000_0000_0000_0001 ∷ 0x800f_ffff_ffff_ffff ∷ 0xc97a_31e0_3af7_458f ∷ 0xbff8_0000_0000_0000 ∷ []); order = 1 };
    }

abbrev cosines9 : List Float
cosines9 = floats (0x3ff0_0000_0000_0000 ∷ 0x3ff0_0000_0000_0000 ∷ 0xe1ca_a469_7cc3_a52e ∷ 0x57eb_a4fe_7da0_f31b ∷ [])

abbrev sines9 : List Float
sines9 = floats (0x8000_0000_0000_0000 ∷ 0x8000_0000_0000_0000 ∷ 0xffff_ffff_ffff_ffff ∷ 0x7ff8_0000_0000_0000 ∷ [])

abbrev loop10 : LoopShaping
loop10 =
    record {
      plant = record { b = floats (0xbff4_b94b_d37a_80c8 ∷ 0x7ff4_0000_dead_beef ∷ 0x7ff4_0000_dead_beef ∷ 0x1fbf_7d1e_8eb8_cb0f ∷ 0x7fff_ffff_ffff_ffff ∷ 0x3e50_0000_0000_0000 ∷ 0x8335_840a_e89b_b09a ∷ 0x7fff_ffff_ffff_ffff ∷ []); a = floats (0x3f9a_59c7_83a7_d6d0 ∷ 0x7ff8_0000_0000_0000 ∷ 0x800f_ffff_ffff_ffff ∷ 0x7ff8_0000_0000_0000 ∷ 0xbff8_0000_0000_0000 ∷ 0x7fff_ffff_ffff_ffff ∷ 0x5ff0_0000_0000_0000 ∷ 0x5ff0_0000_0000_0000 ∷ []); order = 1 };
      controller = record { b = floats (0xbfd5_e202_79f8_9e20 ∷ 0x3fe4_dd36_0752_38b4 ∷ 0xbff7_04ea_f171_bbdc ∷ 0xbfa9_efad_ba03_3540 ∷ 0xbfdc_4c77_7e2a_c9d0 ∷ 0x3fa5_4d1e_b506_8ac0 ∷ 0xbfff_f763_a041_64ec ∷ 0xbffd_856a_ee41_fd9e ∷ []); a = floats (0xbfbf_bd6b_0b71_29d4 ∷ 0x3f9f_8499_25e4_3230 ∷ 0x3fa3_587b_12b7_efc8 ∷ 0x3fbc_2446_419e_779c ∷ 0x3fb0_f621_dc32_0536 ∷ 0x3fa1_612a_9954_5b44 ∷ 0xbfb3_1fc2_7929_f9ee ∷ 0xbfae_cf5e_1759_8654 ∷ []); order = 9 };
    }

abbrev cosines10 : List Float
cosines10 = floats (0x3ff0_0000_0000_0000 ∷ 0xbfe9_7bcb_0a51_1a12 ∷ 0x8b8f_5bef_a645_20c4 ∷ [])

abbrev sines10 : List Float
sines10 = floats (0x8000_0000_0000_0000 ∷ 0xbfe3_5ab1_865b_d75b ∷ 0x3813_37ec_8111_81db ∷ 0xfff0_0000_0000_0001 ∷ [])

abbrev loop11 : LoopShaping
loop11 =
    record {
      plant = record { b = floats (0xbff4_9664_da9e_252c ∷ 0x77c6_b8a5_0b61_ae96 ∷ 0x7ff8_0000_0000_0000 ∷ 0x7ff0_0000_0000_0001 ∷ 0xfff0_0000_0000_0001 ∷ 0x6028_c279_6ec3_cd40 ∷ 0xf0fc_e284_540a_cd6b ∷ 0xcc4f_439e_38a0_37fa ∷ []); a = floats (0xbfbb_b169_56b9_bdbc ∷ 0x3cb0_0000_0000_0000 ∷ 0x724c_e100_2257_7763 ∷ 0x41c3_347e_a210_a128 ∷ 0x7ff4_0000_dead_beef ∷ 0xffef_ffff_ffff_ffff ∷ 0xe546_19da_6cdb_67e6 ∷ 0xfff0_0000_0000_0001 ∷ []); order = 1 };
      controller = record { b = floats (0x3ff2_2bd6_3ac7_8586 ∷ 0xbfde_9c9b_3912_06f0 ∷ 0xbe50_0000_0000_0000 ∷ 0x7ff0_0000_0000_0000 ∷ 0xbff8_0000_0000_0000 ∷ 0xbb99_b172_64ee_c432 ∷ 0xffff_ffff_ffff_ffff ∷ 0x17aa_66a8_386e_74fa ∷ []); a = floats (0xbf8a_9e3f_aef2_75f0 ∷ 0xbfa4_5b1d_0ede_660c ∷ 0xcc66_e02a_c692_5b26 ∷ 0x7ff4_0000_dead_beef ∷ 0xffef_ffff_ffff_ffff ∷ 0x47b0_37e8_9f1d_1363 ∷ 0x800f_ffff_ffff_ffff ∷ 0xda52_49a3_9147_25e5 ∷ []); order = 2 };
    }

abbrev cosines11 : List Float
cosines11 = floats (0x3ff0_0000_0000_0000 ∷ 0x3fd4_410e_b84d_0dce ∷ 0xbfe9_9714_aae6_1827 ∷ [])

abbrev sines11 : List Float
sines11 = floats (0x8000_0000_0000_0000 ∷ 0xbfee_5af3_1d2e_de76 ∷ 0xbfe3_368e_a6ae_fcdb ∷ 0x3fe2_31ca_4cb8_8c40 ∷ [])

abbrev loop12 : LoopShaping
loop12 =
    record {
      plant = record { b = floats (0xbfc6_3456_d8ef_5110 ∷ 0xd0ed_fe09_7bff_d5c3 ∷ 0x5570_9402_495c_e2c0 ∷ 0x7ff4_0000_dead_beef ∷ 0xffff_ffff_ffff_ffff ∷ 0x7ff8_0000_0000_0000 ∷ 0xb737_0496_1241_5eb7 ∷ 0x7ff0_0000_0000_0001 ∷ []); a = floats (0xbf9c_ce05_c49e_3740 ∷ 0xfff0_0000_0000_0000 ∷ 0xfff0_0000_0000_0001 ∷ 0x0000_0000_0000_0000 ∷ 0xfff8_0000_0000_0000 ∷ 0x7fff_ffff_ffff_ffff ∷ 0x0010_0000_0000_0000 ∷ 0x92fb_e10d_4bb8_dd84 ∷ []); order = 1 };
      controller = record { b = floats (0xbff6_1ff2_1802_3dce ∷ 0xbffb_9212_053f_952c ∷ 0x1d83_b446_bc98_073f ∷ 0x7ff8_0000_0000_0000 ∷ 0x7897_4c43_8688_0a73 ∷ 0xffff_ffff_ffff_ffff ∷ 0x7fff_ffff_ffff_ffff ∷ 0xacb7_2e85_8156_67bf ∷ []); a = floats (0x3fb6_3f91_5404_4056 ∷ 0xbf66_feef_316b_cb80 ∷ 0x7ff4_0000_dead_beef ∷ 0x403a_3bb9_77ae_d411 ∷ 0xfff0_0000_0000_0001 ∷ 0xb7ad_18a9_86b0_4ca6 ∷ 0x7ff8_0000_0000_0000 ∷ 0x6c38_fa4d_4e01_e0d7 ∷ []); order = 2 };
    }

abbrev cosines12 : List Float
cosines12 = floats (0x3ff0_0000_0000_0000 ∷ 0x3fe5_0925_91ad_e6cc ∷ [])

abbrev sines12 : List Float
sines12 = floats (0x8000_0000_0000_0000 ∷ 0xbfe8_1d40_e393_c23a ∷ [])

unfoldable pub responses : List Row
unfolding of_bits
responses =
    (eval_tf_complex loop1.plant cosines1 sines1 gives found (floats (0x3ffe_3c5a_f45b_2c2d ∷ 0x3fca_df4f_8da7_bd74 ∷ []))) ∷
    (loop_gain_at loop1 cosines1 sines1 gives found (floats (0xbff3_8aee_9ce9_08d2 ∷ 0xbfd1_ca07_5ddc_0a3e ∷ []))) ∷
    (sensitivity_at loop1 cosines1 sines1 gives found (floats (0xbffc_0d95_41bd_6f6a ∷ 0x4001_9ba9_1a60_8f8b ∷ []))) ∷
    (comp_sensitivity_at loop1 cosines1 sines1 gives found (floats (0x4006_06ca_a0de_b7b6 ∷ 0xc001_9ba9_1a60_8f8b ∷ []))) ∷
    (control_sensitivity_at loop1 cosines1 sines1 gives found (floats (0x3ff4_fb84_8192_aa6b ∷ 0xbff4_f76d_7fe0_69df ∷ []))) ∷
    (eval_tf_complex loop2.plant cosines2 sines2 gives found (floats (0x3fea_5c03_719f_c2de ∷ 0x3fd4_fb26_a9f3_f1b5 ∷ []))) ∷
    (loop_gain_at loop2 cosines2 sines2 gives found (floats (0xbfc0_9451_26ac_c729 ∷ 0xbfd4_6245_c39c_a7f6 ∷ []))) ∷
    (sensitivity_at loop2 cosines2 sines2 gives found (floats (0x3ff0_35e9_2ebd_59fb ∷ 0x3fd7_b9a6_eedf_331a ∷ []))) ∷
    (comp_sensitivity_at loop2 cosines2 sines2 gives found (floats (0xbf8a_f497_5eac_fd99 ∷ 0xbfd7_b9a6_eedf_331a ∷ []))) ∷
    (control_sensitivity_at loop2 cosines2 sines2 gives found (floats (0xbfc5_8e68_51ce_5e0c ∷ 0xbfd8_8339_cb3c_4611 ∷ []))) ∷
    (eval_tf_complex loop3.plant cosines3 sines3 gives found (floats (0x0000_0000_0000_0000 ∷ 0x0000_0000_0000_0000 ∷ []))) ∷
    (loop_gain_at loop3 cosines3 sines3 gives found (floats (0x0000_0000_0000_0000 ∷ 0x8000_0000_0000_0000 ∷ []))) ∷
    (sensitivity_at loop3 cosines3 sines3 gives found (floats (0x3ff0_0000_0000_0000 ∷ 0x0000_0000_0000_0000 ∷ []))) ∷
    (comp_sensitivity_at loop3 cosines3 sines3 gives found (floats (0x0000_0000_0000_0000 ∷ 0x0000_0000_0000_0000 ∷ []))) ∷
    (control_sensitivity_at loop3 cosines3 sines3 gives found (floats (0xc003_2d4b_c8e6_a11b ∷ 0xbffd_9dfc_f34b_1f1c ∷ []))) ∷
    (eval_tf_complex loop4.plant cosines4 sines4 gives found (floats (0x3ff8_9ed4_3228_c66c ∷ 0xbff4_5768_97f9_78a0 ∷ []))) ∷
    (loop_gain_at loop4 cosines4 sines4 gives found (floats (0x4012_da6a_c35f_15d4 ∷ 0x3fd5_1332_42a6_8968 ∷ []))) ∷
    (sensitivity_at loop4 cosines4 sines4 gives found (floats (0x3fc6_5466_ca83_2ec0 ∷ 0xbf84_979b_ca48_d030 ∷ []))) ∷
    (comp_sensitivity_at loop4 cosines4 sines4 gives found (floats (0x3fea_6ae6_4d5f_344f ∷ 0x3f84_979b_ca48_d030 ∷ []))) ∷
    (control_sensitivity_at loop4 cosines4 sines4 gives found (floats (0x3fd4_3371_59ae_b5a6 ∷ 0x3fd1_1bb6_83e6_fdb4 ∷ []))) ∷
    (eval_tf_complex loop5.plant cosines5 sines5 gives found (floats (0x3ff0_0000_0000_0000 ∷ 0x0000_0000_0000_0000 ∷ []))) ∷
    (loop_gain_at loop5 cosines5 sines5 gives found (floats (0xbff0_0000_0000_0000 ∷ 0x0000_0000_0000_0000 ∷ []))) ∷
    (sensitivity_at loop5 cosines5 sines5 gives found (floats (0x0000_0000_0000_0000 ∷ 0x0000_0000_0000_0000 ∷ []))) ∷
    (comp_sensitivity_at loop5 cosines5 sines5 gives found (floats (0x0000_0000_0000_0000 ∷ 0x0000_0000_0000_0000 ∷ []))) ∷
    (control_sensitivity_at loop5 cosines5 sines5 gives found (floats (0x0000_0000_0000_0000 ∷ 0x0000_0000_0000_0000 ∷ []))) ∷
    (eval_tf_complex loop6.plant cosines6 sines6 gives found (floats (0x3ff0_0000_0000_0000 ∷ 0x0000_0000_0000_0000 ∷ []))) ∷
    (loop_gain_at loop6 cosines6 sines6 gives found (floats (0xbfef_ffff_fa00_0000 ∷ 0x0000_0000_0000_0000 ∷ []))) ∷
    (sensitivity_at loop6 cosines6 sines6 gives found (floats (0x0000_0000_0000_0000 ∷ 0x0000_0000_0000_0000 ∷ []))) ∷
    (comp_sensitivity_at loop6 cosines6 sines6 gives found (floats (0x0000_0000_0000_0000 ∷ 0x0000_0000_0000_0000 ∷ []))) ∷
    (control_sensitivity_at loop6 cosines6 sines6 gives found (floats (0x0000_0000_0000_0000 ∷ 0x0000_0000_0000_0000 ∷ []))) ∷
    (eval_tf_complex loop7.plant cosines7 sines7 gives found (floats (0x4190_0000_0000_0000 ∷ 0x0000_0000_0000_0000 ∷ []))) ∷
    (loop_gain_at loop7 cosines7 sines7 gives found (floats (0xc180_0000_0000_0000 ∷ 0x0000_0000_0000_0000 ∷ []))) ∷
    (sensitivity_at loop7 cosines7 sines7 gives found (floats (0xbe60_0000_0800_0004 ∷ 0x8000_0000_0000_0000 ∷ []))) ∷
    (comp_sensitivity_at loop7 cosines7 sines7 gives found (floats (0x3ff0_0000_0800_0004 ∷ 0x0000_0000_0000_0000 ∷ []))) ∷
    (control_sensitivity_at loop7 cosines7 sines7 gives found (floats (0x3e50_0000_0800_0004 ∷ 0x0000_0000_0000_0000 ∷ []))) ∷
    (eval_tf_complex loop8.plant cosines8 sines8 gives found (floats (0x0000_0000_0000_0000 ∷ 0x0000_0000_0000_0000 ∷ []))) ∷
    (loop_gain_at loop8 cosines8 sines8 gives found (floats (0x8000_0000_0000_0000 ∷ 0x0000_0000_0000_0000 ∷ []))) ∷
    (sensitivity_at loop8 cosines8 sines8 gives found (floats (0x3ff0_0000_0000_0000 ∷ 0x0000_0000_0000_0000 ∷ []))) ∷
    (comp_sensitivity_at loop8 cosines8 sines8 gives found (floats (0x0000_0000_0000_0000 ∷ 0x0000_0000_0000_0000 ∷ []))) ∷
    (control_sensitivity_at loop8 cosines8 sines8 gives found (floats (0xbfe0_0000_0000_0000 ∷ 0x0000_0000_0000_0000 ∷ []))) ∷
    (eval_tf_complex loop9.plant cosines9 sines9 gives found (floats (0x7ff8_0000_0000_0000 ∷ 0x7ff8_0000_0000_0000 ∷ []))) ∷
    (loop_gain_at loop9 cosines9 sines9 gives found (floats (0x7ff8_0000_0000_0000 ∷ 0x7ff8_0000_0000_0000 ∷ []))) ∷
    (sensitivity_at loop9 cosines9 sines9 gives found (floats (0x7ff8_0000_0000_0000 ∷ 0x7ff8_0000_0000_0000 ∷ []))) ∷
    (comp_sensitivity_at loop9 cosines9 sines9 gives found (floats (0x7ff8_0000_0000_0000 ∷ 0x7ff8_0000_0000_0000 ∷ []))) ∷
    (control_sensitivity_at loop9 cosines9 sines9 gives found (floats (0x7ff8_0000_0000_0000 ∷ 0x7ff8_0000_0000_0000 ∷ []))) ∷
    (eval_tf_complex loop10.plant cosines10 sines10 gives refused 11) ∷
    (loop_gain_at loop10 cosines10 sines10 gives refused 16) ∷
    (sensitivity_at loop10 cosines10 sines10 gives refused 16) ∷
    (comp_sensitivity_at loop10 cosines10 sines10 gives refused 16) ∷
    (control_sensitivity_at loop10 cosines10 sines10 gives refused 16) ∷
    (eval_tf_complex loop11.plant cosines11 sines11 gives refused 11) ∷
    (loop_gain_at loop11 cosines11 sines11 gives refused 11) ∷
    (sensitivity_at loop11 cosines11 sines11 gives refused 11) ∷
    (comp_sensitivity_at loop11 cosines11 sines11 gives refused 11) ∷
    (control_sensitivity_at loop11 cosines11 sines11 gives refused 11) ∷
    (eval_tf_complex loop12.plant cosines12 sines12 gives found (floats (0xbfc6_9cbb_4019_a005 ∷ 0x3f6f_4140_d316_515d ∷ []))) ∷
    (loop_gain_at loop12 cosines12 sines12 gives refused 13) ∷
    (sensitivity_at loop12 cosines12 sines12 gives refused 13) ∷
    (comp_sensitivity_at loop12 cosines12 sines12 gives refused 13) ∷
    (control_sensitivity_at loop12 cosines12 sines12 gives refused 13) ∷
    []

-- ---- the starting points of the root search, all of them

unfoldable pub starts : List Row
unfolding of_bits
starts =
    (start_at 4 0 gives found (floats (0x3ff0_0000_0000_0000 ∷ 0x0000_0000_0000_0000 ∷ []))) ∷
    (start_at 4 1 gives found (floats (0x3c91_a626_3314_5c07 ∷ 0x3ff0_0000_0000_0000 ∷ []))) ∷
    (start_at 4 2 gives found (floats (0xbff0_0000_0000_0000 ∷ 0x3ca1_a626_3314_5c07 ∷ []))) ∷
    (start_at 4 3 gives found (floats (0xbcaa_7939_4c9e_8a0a ∷ 0xbff0_0000_0000_0000 ∷ []))) ∷
    (start_at 5 0 gives found (floats (0x3ff0_0000_0000_0000 ∷ 0x0000_0000_0000_0000 ∷ []))) ∷
    (start_at 5 1 gives found (floats (0x3fd3_c6ef_372f_e950 ∷ 0x3fee_6f0e_1344_54ff ∷ []))) ∷
    (start_at 5 2 gives found (floats (0xbfe9_e377_9b97_f4a7 ∷ 0x3fe2_cf23_0475_5a5f ∷ []))) ∷
    (start_at 5 3 gives found (floats (0xbfe9_e377_9b97_f4a9 ∷ 0xbfe2_cf23_0475_5a5d ∷ []))) ∷
    (start_at 5 4 gives found (floats (0x3fd3_c6ef_372f_e94c ∷ 0xbfee_6f0e_1344_5500 ∷ []))) ∷
    (start_at 6 0 gives found (floats (0x3ff0_0000_0000_0000 ∷ 0x0000_0000_0000_0000 ∷ []))) ∷
    (start_at 6 1 gives found (floats (0x3fe0_0000_0000_0001 ∷ 0x3feb_b67a_e858_4caa ∷ []))) ∷
    (start_at 6 2 gives found (floats (0xbfdf_ffff_ffff_fffc ∷ 0x3feb_b67a_e858_4cab ∷ []))) ∷
    (start_at 6 3 gives found (floats (0xbff0_0000_0000_0000 ∷ 0x3ca1_a626_3314_5c07 ∷ []))) ∷
    (start_at 6 4 gives found (floats (0xbfe0_0000_0000_0004 ∷ 0xbfeb_b67a_e858_4ca8 ∷ []))) ∷
    (start_at 6 5 gives found (floats (0x3fe0_0000_0000_0001 ∷ 0xbfeb_b67a_e858_4caa ∷ []))) ∷
    (start_at 7 0 gives found (floats (0x3ff0_0000_0000_0000 ∷ 0x0000_0000_0000_0000 ∷ []))) ∷
    (start_at 7 1 gives found (floats (0x3fe3_f3a0_e28b_edd2 ∷ 0x3fe9_04c3_7505_de4b ∷ []))) ∷
    (start_at 7 2 gives found (floats (0xbfcc_7b90_e302_4580 ∷ 0x3fef_329c_0558_e969 ∷ []))) ∷
    (start_at 7 3 gives found (floats (0xbfec_d4bc_a9cb_5c70 ∷ 0x3fdb_c4c0_4d71_abc3 ∷ []))) ∷
    (start_at 7 4 gives found (floats (0xbfec_d4bc_a9cb_5c71 ∷ 0xbfdb_c4c0_4d71_abbf ∷ []))) ∷
    (start_at 7 5 gives found (floats (0xbfcc_7b90_e302_4589 ∷ 0xbfef_329c_0558_e969 ∷ []))) ∷
    (start_at 7 6 gives found (floats (0x3fe3_f3a0_e28b_edd0 ∷ 0xbfe9_04c3_7505_de4c ∷ []))) ∷
    (start_at 8 0 gives found (floats (0x3ff0_0000_0000_0000 ∷ 0x0000_0000_0000_0000 ∷ []))) ∷
    (start_at 8 1 gives found (floats (0x3fe6_a09e_667f_3bcd ∷ 0x3fe6_a09e_667f_3bcc ∷ []))) ∷
    (start_at 8 2 gives found (floats (0x3c91_a626_3314_5c07 ∷ 0x3ff0_0000_0000_0000 ∷ []))) ∷
    (start_at 8 3 gives found (floats (0xbfe6_a09e_667f_3bcc ∷ 0x3fe6_a09e_667f_3bcd ∷ []))) ∷
    (start_at 8 4 gives found (floats (0xbff0_0000_0000_0000 ∷ 0x3ca1_a626_3314_5c07 ∷ []))) ∷
    (start_at 8 5 gives found (floats (0xbfe6_a09e_667f_3bce ∷ 0xbfe6_a09e_667f_3bcc ∷ []))) ∷
    (start_at 8 6 gives found (floats (0xbcaa_7939_4c9e_8a0a ∷ 0xbff0_0000_0000_0000 ∷ []))) ∷
    (start_at 8 7 gives found (floats (0x3fe6_a09e_667f_3bcb ∷ 0xbfe6_a09e_667f_3bce ∷ []))) ∷
    []

-- ---- points of degrees 1 and 2; leading coefficients that are dropped; a cubic; refusals

abbrev function1 : TransferFn
function1 = record { b = floats (0xbfd8_38e0_d275_77f8 ∷ 0x44f3_90ce_e0d6_0c62 ∷ 0xd8c9_ce90_e084_6671 ∷ 0xb861_0963_1672_5acb ∷ 0x7ff0_0000_0000_0000 ∷ 0xbe50_0000_0000_0000 ∷ 0x121f_7b5c_6347_a387 ∷ 0xfe00_bc7d_ae3f_5665 ∷ []); a = floats (0x3fc0_208a_d2da_d630 ∷ 0x8000_0000_0000_0000 ∷ 0x35e2_62b8_e32a_664f ∷ 0xa811_11bd_1bda_a9d2 ∷ 0xbff8_0000_0000_0000 ∷ 0xfff8_0000_0000_0000 ∷ 0xf050_5e62_e2a2_e998 ∷ 0x3641_7b4b_9bfb_c05a ∷ []); order = 1 }

abbrev function2 : TransferFn
function2 = record { b = floats (0x3fe2_2eef_8967_6f40 ∷ 0xbfde_20f5_7bdf_2328 ∷ 0x7fff_ffff_ffff_ffff ∷ 0x5ff0_0000_0000_0000 ∷ 0xbe50_0000_0000_0000 ∷ 0x0583_abfa_749f_ed54 ∷ 0x0010_0000_0000_0000 ∷ 0xffef_ffff_ffff_ffff ∷ []); a = floats (0x3fd5_e744_6d6f_def8 ∷ 0x3fe2_1434_9b36_dd20 ∷ 0x3e50_0000_0000_0000 ∷ 0x1568_eff9_cc51_6597 ∷ 0x721e_db27_23be_3589 ∷ 0xb77d_7600_92df_5ad2 ∷ 0x7fff_ffff_ffff_ffff ∷ 0x88b9_583b_0ad8_9817 ∷ []); order = 2 }

abbrev function3 : TransferFn
function3 = record { b = floats (0x3ff6_6c67_7541_3af0 ∷ 0x3ffe_ad93_226b_dca0 ∷ 0xed85_bb3b_3c76_427b ∷ 0x3d59_2483_f298_05da ∷ 0x7ff0_0000_0000_0001 ∷ 0xc175_8d66_d6e8_5e77 ∷ 0x1bda_f11b_2a76_d495 ∷ 0x3cb0_0000_0000_0000 ∷ []); a = floats (0x3ffb_a738_1ca4_9490 ∷ 0xbfe4_3ead_e851_8d8c ∷ 0x3483_9c4d_78bc_d064 ∷ 0x7fff_ffff_ffff_ffff ∷ 0x0000_0000_0000_0000 ∷ 0x60c7_db79_78da_ae04 ∷ 0x7fff_ffff_ffff_ffff ∷ 0x4e36_cb82_6bfd_ecd3 ∷ []); order = 2 }

abbrev function4 : TransferFn
function4 = record { b = floats (0x3ff7_2b4d_db03_a264 ∷ 0xbff7_e64a_1850_3902 ∷ 0xfff8_0000_0000_0000 ∷ 0x1ef6_2aa2_6b58_5d2b ∷ 0x0bb3_0add_7f36_4bbb ∷ 0xe23e_61dc_484d_a33c ∷ 0x800f_ffff_ffff_ffff ∷ 0x7ff4_0000_dead_beef ∷ []); a = floats (0xbfe1_cc76_5d12_3a7c ∷ 0x3fe2_48b8_0e6d_8130 ∷ 0xfff0_0000_0000_0000 ∷ 0x3e50_0000_0000_0000 ∷ 0x3ff0_0000_0000_0000 ∷ 0x7fff_ffff_ffff_ffff ∷ 0x7fff_ffff_ffff_ffff ∷ 0x0010_0000_0000_0000 ∷ []); order = 2 }

abbrev function5 : TransferFn
function5 = record { b = floats (0xbfef_ffff_ffff_ffff ∷ 0x8000_0000_0000_0000 ∷ 0x8000_0000_0000_0000 ∷ 0x8000_0000_0000_0000 ∷ 0x3f1e_7846_ac48_2b01 ∷ 0x0000_0000_0000_0000 ∷ 0xfff8_0000_0000_0000 ∷ 0x7ff0_0000_0000_0001 ∷ []); a = floats (0xbcaf_ffff_ffff_ffff ∷ 0x3cb0_0000_0000_0000 ∷ 0x3ff8_0000_0000_0000 ∷ 0xbfe8_0000_0000_0000 ∷ 0xaa1d_5335_298a_e59b ∷ 0xaccb_a532_8953_c084 ∷ 0x0010_0000_0000_0000 ∷ 0x3e50_0000_0000_0000 ∷ []); order = 4 }

abbrev function6 : TransferFn
function6 = record { b = floats (0xbff0_0000_0000_0000 ∷ 0xd8c0_6819_04d5_e3d1 ∷ 0xffef_ffff_ffff_ffff ∷ 0xfff8_0000_0000_0000 ∷ 0xbe50_0000_0000_0000 ∷ 0x7ff4_0000_dead_beef ∷ 0x0010_0000_0000_0000 ∷ 0x7fff_ffff_ffff_ffff ∷ []); a = floats (0x3caf_ffff_ffff_ffff ∷ 0x4545_2ec8_1fe7_cc42 ∷ 0x3e50_0000_0000_0000 ∷ 0x12dc_51cd_c4f1_fca9 ∷ 0x7b6b_d5d7_dda1_ad3d ∷ 0xfff0_0000_0000_0001 ∷ 0x7fff_ffff_ffff_ffff ∷ 0x3e50_0000_0000_0000 ∷ []); order = 1 }

abbrev function7 : TransferFn
function7 = record { b = floats (0x0000_0000_0000_0000 ∷ 0x8000_0000_0000_0000 ∷ 0x8000_0000_0000_0000 ∷ 0x4419_73ae_2853_6b0a ∷ 0x12ea_b6e6_1695_1e4a ∷ 0x3e50_0000_0000_0000 ∷ 0x3cb0_0000_0000_0000 ∷ 0x3cb0_0000_0000_0000 ∷ []); a = floats (0xbfe0_0000_0000_0000 ∷ 0x3fd0_0000_0000_0000 ∷ 0x4000_0000_0000_0000 ∷ 0x8430_8a52_a3d7_12e5 ∷ 0x344a_9ee8_329f_05e8 ∷ 0x30b3_8261_164a_0369 ∷ 0x7ff4_0000_dead_beef ∷ 0x7ff8_0000_0000_0000 ∷ []); order = 3 }

abbrev function8 : TransferFn
function8 = record { b = floats (0x8000_0000_0000_0000 ∷ 0xfff8_0000_0000_0000 ∷ 0xbff8_0000_0000_0000 ∷ 0x7ff4_0000_dead_beef ∷ 0x7ff4_0000_dead_beef ∷ 0x0010_0000_0000_0000 ∷ 0xffff_ffff_ffff_ffff ∷ 0xbe50_0000_0000_0000 ∷ []); a = floats (0x0000_0000_0000_0001 ∷ 0x7fff_ffff_ffff_ffff ∷ 0xffff_ffff_ffff_ffff ∷ 0x7ff0_0000_0000_0001 ∷ 0xffff_ffff_ffff_ffff ∷ 0x7ff8_0000_0000_0000 ∷ 0x5586_558c_9e97_f381 ∷ 0xffff_ffff_ffff_ffff ∷ []); order = 0 }

abbrev function9 : TransferFn
function9 = record { b = floats (0x3fe9_cf69_6323_8cf4 ∷ 0xbfe9_877c_4f3f_b8bc ∷ 0xbffa_096a_8d39_05cc ∷ 0xbff7_eecc_adf0_4730 ∷ 0xbfdd_d86b_d2b7_fbb0 ∷ 0xbff3_4b55_773b_c2fe ∷ 0xbff4_c0f7_ad44_6fe6 ∷ 0xbff1_6884_1437_139c ∷ []); a = floats (0xbfb6_5e23_ab13_1a1c ∷ 0xbfa2_eaf5_97bb_6410 ∷ 0xbfbd_3d7f_d499_0e42 ∷ 0xbfb2_7e5a_961e_f590 ∷ 0xbfb9_613e_5fbc_22b0 ∷ 0x3f8a_749b_52ed_6760 ∷ 0x3faf_1c39_9daa_cb70 ∷ 0xbfbf_94d7_9e04_88a2 ∷ []); order = 9 }

abbrev function10 : TransferFn
function10 = record { b = floats (0xbfff_3494_ee95_8550 ∷ 0xbfd3_fba2_c554_d960 ∷ 0x3ff1_c921_fc80_251c ∷ 0xbffe_a20d_6004_ea32 ∷ 0xbff9_281d_3bfb_075c ∷ 0x3ffe_93ad_9e01_09c0 ∷ 0x3ffd_68bd_0617_8bb2 ∷ 0x3ffc_6a11_779b_1fee ∷ []); a = floats (0xbfb0_ee9a_cf3e_dc9c ∷ 0x3fba_179d_74a3_cd40 ∷ 0xbf8c_816b_621b_3b90 ∷ 0xbf86_540b_672a_8d50 ∷ 0xbf85_e111_a8b0_3c80 ∷ 0xbfb6_44cd_9ba0_f3e4 ∷ 0xbfbe_fc5e_d432_95ac ∷ 0x3fba_4662_5ca5_40ce ∷ []); order = 9 }

abbrev function11 : TransferFn
function11 = record { b = floats (0x3e50_0000_0000_0000 ∷ 0x7ff4_0000_dead_beef ∷ 0xfff0_0000_0000_0000 ∷ 0x8d5b_3cfb_4754_331d ∷ 0x7ff4_0000_dead_beef ∷ 0xfff8_0000_0000_0000 ∷ 0x7fff_ffff_ffff_ffff ∷ 0xc16a_d05a_aa04_6a7f ∷ []); a = floats (0xbe50_0000_0000_0000 ∷ 0x0000_0000_0000_0001 ∷ 0x7ff4_0000_dead_beef ∷ 0xe4e8_fc74_6980_8647 ∷ 0x7ff0_0000_0000_0001 ∷ 0x7fff_ffff_ffff_ffff ∷ 0xbe50_0000_0000_0000 ∷ 0xbe50_0000_0000_0000 ∷ []); order = 0 }

abbrev function12 : TransferFn
function12 = record { b = floats (0x3ff8_e4b0_af06_eaf2 ∷ 0x7ff0_0000_0000_0001 ∷ 0xf664_277e_c4e1_7947 ∷ 0xfff0_0000_0000_0001 ∷ 0x0000_0000_0000_0001 ∷ 0x7ff0_0000_0000_0000 ∷ 0x6290_4822_7860_c0c1 ∷ 0xfff8_0000_0000_0000 ∷ []); a = floats (0x3fa6_f008_2b30_0a34 ∷ 0x22c4_9be9_873c_7448 ∷ 0xbe50_0000_0000_0000 ∷ 0x3ff0_0000_0000_0000 ∷ 0xd1e5_4baf_6d2f_b859 ∷ 0x0010_0000_0000_0000 ∷ 0x7ff0_0000_0000_0001 ∷ 0xfff8_0000_0000_0000 ∷ []); order = 1 }

abbrev function13 : TransferFn
function13 = record { b = floats (0x3ff8_9e3e_6c80_edc4 ∷ 0x3ff4_15b5_b6fe_96d4 ∷ 0x3ffb_8289_c583_43fc ∷ 0xa8c7_301d_c6b6_f184 ∷ 0xe763_5b12_4776_b95d ∷ 0x73a1_c22d_3948_3dee ∷ 0x4193_2bd9_2eaf_7119 ∷ 0x4583_a06f_9c04_13f4 ∷ []); a = floats (0x3fa3_f3f1_b31f_1e84 ∷ 0x3fb6_fad1_80fe_517c ∷ 0x3fa0_93b5_87fb_73c0 ∷ 0xffef_ffff_ffff_ffff ∷ 0x3e50_0000_0000_0000 ∷ 0x7ff8_0000_0000_0000 ∷ 0xfff0_0000_0000_0001 ∷ 0xfe24_9a41_fa52_176c ∷ []); order = 3 }

unfoldable pub formulas : List Row
unfolding of_bits
formulas =
    (locus_point function1 (bits 0x3fe5_7d0b_cf41_fab1) 5 3 gives found (floats (0x3fe0_1dc8_db71_7c05 ∷ 0xbfc3_ecd1_96ec_4999 ∷ 0x0000_0000_0000_0000 ∷ []))) ∷
    (locus_point function2 (bits 0x3ff9_5081_944d_4d65) 5 3 gives found (floats (0x3ff2_fc61_2f39_fa0c ∷ 0x3fb0_8abe_d3b0_48cb ∷ 0x3fe2_792b_4c69_bc84 ∷ 0x3fb0_8abe_d3b0_48cb ∷ 0xbfe2_792b_4c69_bc84 ∷ []))) ∷
    (locus_point function3 (bits 0x3fea_69ae_a3a1_1906) 5 3 gives found (floats (0x3fe3_cf42_fab8_d2c4 ∷ 0x3fc8_b829_f349_6a76 ∷ 0x0000_0000_0000_0000 ∷ 0xbffc_10d9_ec19_f83e ∷ 0x0000_0000_0000_0000 ∷ []))) ∷
    (locus_point function4 (bits 0x3ffe_d896_2764_47e8) 5 3 gives found (floats (0x3ff7_2270_9d8b_35ee ∷ 0x3fe0_e7ee_ff92_b5bb ∷ 0x0000_0000_0000_0000 ∷ 0x3fd6_5f77_6608_952d ∷ 0x0000_0000_0000_0000 ∷ []))) ∷
    (locus_point function5 (bits 0x4000_0000_0000_0000) 3 1 gives found (floats (0x3ff0_0000_0000_0000 ∷ 0x3fe0_0000_0000_0000 ∷ 0x0000_0000_0000_0000 ∷ 0xc338_0000_0000_0000 ∷ 0x0000_0000_0000_0000 ∷ []))) ∷
    (locus_point function6 (bits 0x3ff0_0000_0000_0000) 33 32 gives found (floats (0x3ff0_0000_0000_0000 ∷ []))) ∷
    (locus_point function7 (bits 0x3ff0_0000_0000_0000) 33 32 gives refused 12) ∷
    (locus_point function8 (bits 0x3ff0_0000_0000_0000) 1 0 gives refused 1) ∷
    (locus_point function9 (bits 0x8000_0000_0000_0000) 2 2 gives refused 3) ∷
    (locus_point function10 (bits 0x3ff0_0000_0000_0000) 4097 0 gives refused 3) ∷
    (locus_point function11 (bits 0x3ff0_0000_0000_0000) 4097 5000 gives refused 16) ∷
    (locus_point function12 (bits 0x3ff0_0000_0000_0000) 4097 5000 gives refused 15) ∷
    (locus_point function13 (bits 0x3ff0_0000_0000_0000) 4096 4096 gives refused 17) ∷
    []

-- ---- the search, degree 4

abbrev function14 : TransferFn
function14 = record { b = floats (0xbfd1_bd5d_23c5_dbf0 ∷ 0x3ffe_e6ad_9a84_5ae2 ∷ 0x3fe5_ce64_05d9_eb3c ∷ 0x3ff0_fa2b_3123_4b70 ∷ 0x7ff0_0000_0000_0000 ∷ 0x9258_4701_e63a_5b97 ∷ 0x7fff_ffff_ffff_ffff ∷ 0x5ff0_0000_0000_0000 ∷ []); a = floats (0x3fe2_563e_b0cc_d8a0 ∷ 0x3ffb_1785_bbfb_d8e8 ∷ 0x3ff7_1106_81ab_1638 ∷ 0x3fcc_fd04_b34b_ad60 ∷ 0xfff0_0000_0000_0001 ∷ 0xbbb8_91f1_936b_61db ∷ 0xe55a_d959_d436_45b1 ∷ 0xfff0_0000_0000_0000 ∷ []); order = 4 }

unfoldable pub quartic : List Row
unfolding of_bits
quartic =
    (locus_point function14 (bits 0x3ffb_3a99_6b24_a703) 5 3 gives found (floats (0x3ff4_6bf3_105b_7d42 ∷ 0xc00f_c55e_241a_844e ∷ 0xb901_6dde_0000_0000 ∷ 0xbfd4_90df_7d9b_88be ∷ 0x3fee_7da1_1b66_7f85 ∷ 0xbfb6_577b_6488_d616 ∷ 0xb5a0_0000_0000_0000 ∷ 0xbfd4_90df_7d9b_88be ∷ 0xbfee_7da1_1b66_7f85 ∷ []))) ∷
    []

-- ---- the search, degree 5

abbrev function15 : TransferFn
function15 = record { b = floats (0x3ff0_3b88_04eb_4fb8 ∷ 0xbffd_9790_e4c9_c594 ∷ 0x3fe4_1767_16ab_a038 ∷ 0xbff4_6487_8d6e_bf20 ∷ 0xbfd4_80ed_334a_59a0 ∷ 0x7ff8_0000_0000_0000 ∷ 0x7ff4_0000_dead_beef ∷ 0xffff_ffff_ffff_ffff ∷ []); a = floats (0xbff7_8e72_efb9_9f1c ∷ 0x3ff6_0712_8fae_911c ∷ 0x3ff4_9ffd_f1e2_e80c ∷ 0x3fd8_f105_c9dc_0fd8 ∷ 0xbfe0_b261_1aaa_d174 ∷ 0x7ff0_0000_0000_0001 ∷ 0x0000_0000_0000_0001 ∷ 0x677e_0669_7eb5_24ba ∷ []); order = 5 }

unfoldable pub quintic : List Row
unfolding of_bits
quintic =
    (locus_point function15 (bits 0x3ff6_c3fc_66ac_f422) 5 3 gives found (floats (0x3ff1_12fd_4d01_b71a ∷ 0x3fee_1ad0_1801_21e4 ∷ 0xb950_dd37_1800_0000 ∷ 0x3fe6_21dc_52c0_007a ∷ 0x3fe6_33c0_86bd_b7a5 ∷ 0xbfd5_6c09_6efd_8880 ∷ 0x3fda_081d_affc_e66a ∷ 0xbfd5_6c09_6efd_8880 ∷ 0xbfda_081d_affc_e66a ∷ 0x3fe6_21dc_52c0_0079 ∷ 0xbfe6_33c0_86bd_b7a4 ∷ []))) ∷
    []

-- ---- the search, degree 6

abbrev function16 : TransferFn
function16 = record { b = floats (0xbff2_0b67_209f_339a ∷ 0xbff3_12ef_d998_177a ∷ 0x3fad_3824_25c8_b800 ∷ 0x3ff6_042c_0a90_d34c ∷ 0x3ff6_f3e4_cd15_9a70 ∷ 0x3fed_6b94_701a_ceb8 ∷ 0xfff8_0000_0000_0000 ∷ 0xfff8_0000_0000_0000 ∷ []); a = floats (0xbffe_bbfc_aae2_b1d4 ∷ 0xbff1_4e78_c4be_e2f8 ∷ 0x3ffd_6538_85d3_d9d2 ∷ 0x3fe6_3113_664b_94d4 ∷ 0xbff7_a5d2_57e1_269c ∷ 0xbff8_80a4_0193_fcda ∷ 0xffff_ffff_ffff_ffff ∷ 0x7ff0_0000_0000_0001 ∷ []); order = 6 }

unfoldable pub sextic : List Row
unfolding of_bits
sextic =
    (locus_point function16 (bits 0x3ff8_9ebb_f38a_d147) 5 3 gives found (floats (0x3ff2_770c_f6a8_1cf5 ∷ 0x3fea_9950_2181_a052 ∷ 0xbfbc_dd49_5999_166d ∷ 0xc025_088e_20aa_5545 ∷ 0x3936_59dc_aa26_a800 ∷ 0xbfe0_b1b0_2af8_6b94 ∷ 0x3fe4_00d8_54c3_ba75 ∷ 0xbff0_909c_6f03_5f6c ∷ 0xb94d_5b3a_fa88_0000 ∷ 0xbfe0_b1b0_2af8_6b94 ∷ 0xbfe4_00d8_54c3_ba75 ∷ 0x3fea_9950_2181_a052 ∷ 0x3fbc_dd49_5999_166d ∷ []))) ∷
    []

-- ---- the search, degree 7

abbrev function17 : TransferFn
function17 = record { b = floats (0x3ff1_0bb0_1f14_7f7a ∷ 0xbfff_a36c_f6e2_2458 ∷ 0x3ff0_5efc_9070_aa1c ∷ 0x3fe4_5bcf_d316_b5d8 ∷ 0xbfc5_6a86_e731_ac50 ∷ 0x3fe2_e1f6_1910_b65c ∷ 0x3fe7_d741_5abf_36b0 ∷ 0x8120_783b_f516_9a77 ∷ []); a = floats (0xbffe_779e_4c22_c0c8 ∷ 0xbfe9_5100_124c_97cc ∷ 0x3fed_c3a5_4564_a588 ∷ 0x3ff4_77be_77aa_cc7e ∷ 0xbff8_012e_ffae_e478 ∷ 0xbfe0_67d1_3206_6cac ∷ 0x3f83_c149_792f_c600 ∷ 0xffff_ffff_ffff_ffff ∷ []); order = 7 }

unfoldable pub septic : List Row
unfolding of_bits
septic =
    (locus_point function17 (bits 0x3ff6_1bfb_06ec_5519) 5 3 gives found (floats (0x3ff0_94fc_4531_3fd3 ∷ 0x3fd2_2b5f_ddf4_1d60 ∷ 0xbfd0_ea1c_998e_cc72 ∷ 0x3ff4_17a4_b6e6_7821 ∷ 0x3fd1_ea19_90e0_b91c ∷ 0x3fd2_2b5f_ddf4_1d5f ∷ 0x3fd0_ea1c_998e_cc73 ∷ 0xbfe2_ac96_9e44_6d3d ∷ 0x3fdd_8cf8_7621_6b43 ∷ 0xbfe2_ac96_9e44_6d3d ∷ 0xbfdd_8cf8_7621_6b43 ∷ 0xbfa1_054d_5b2c_3e37 ∷ 0x3718_0000_0000_0000 ∷ 0x3ff4_17a4_b6e6_7821 ∷ 0xbfd1_ea19_90e0_b91a ∷ []))) ∷
    []

-- ---- the search, degree 8

abbrev function18 : TransferFn
function18 = record { b = floats (0xbfd9_5f14_f98f_d598 ∷ 0xbfee_485e_d76b_76b8 ∷ 0x3ff1_1caa_2468_2c00 ∷ 0xbffc_08b8_72d5_c966 ∷ 0xbfec_02a9_3ff9_bd00 ∷ 0x3fb3_c4b4_7c3d_0ba0 ∷ 0x3fc1_9961_f094_3d60 ∷ 0xbfcf_2a5a_51f8_31d0 ∷ []); a = floats (0xbff1_3004_cc0f_5178 ∷ 0xbffa_f7d8_363f_6938 ∷ 0xbfb3_6da7_48a6_a3e0 ∷ 0xbfeb_eea6_c28b_d640 ∷ 0xbff8_9b19_4bac_ad6a ∷ 0xbfd9_28e2_4ee5_9878 ∷ 0xbfee_fcb9_1187_dc20 ∷ 0x3ff9_4bf7_9db2_e7aa ∷ []); order = 8 }

unfoldable pub octic : List Row
unfolding of_bits
octic =
    (locus_point function18 (bits 0x3ff1_effa_82a4_14f8) 5 3 gives found (floats (0x3fea_e7f7_c3f6_1f74 ∷ 0x400b_6646_db0a_56ad ∷ 0xb937_8d0a_1160_0000 ∷ 0x3fde_de24_23a8_4fd2 ∷ 0x3fed_8298_4006_e3c6 ∷ 0x3fe3_75e3_840e_8f5e ∷ 0xb945_4487_1246_3800 ∷ 0xbfc7_8be4_7b9f_62c1 ∷ 0x3fef_3a6f_b376_2a96 ∷ 0xbfed_32ff_6229_0cfd ∷ 0x3fde_eb4d_555d_a745 ∷ 0xbfed_32ff_6229_0cfd ∷ 0xbfde_eb4d_555d_a745 ∷ 0xbfc7_8be4_7b9f_62c1 ∷ 0xbfef_3a6f_b376_2a96 ∷ 0x3fde_de24_23a8_4fd2 ∷ 0xbfed_8298_4006_e3c6 ∷ []))) ∷
    []

-- ---- searches with a divisor of squared magnitude eps, and of the next below; one that ends at once, with roots that are NaN

abbrev function19 : TransferFn
function19 = record { b = floats (0x0000_0000_0000_0000 ∷ 0x8000_0000_0000_0000 ∷ 0x8000_0000_0000_0000 ∷ 0x8000_0000_0000_0000 ∷ 0x3cb0_0000_0000_0000 ∷ 0x2570_f326_d11c_f6d8 ∷ 0x0000_0000_0000_0001 ∷ 0x8000_0000_0000_0000 ∷ []); a = floats (0xbff1_1105_93ad_7208 ∷ 0xbfae_cbdc_2b3d_7400 ∷ 0x3fd6_d0cc_74ee_5ae0 ∷ 0x401f_14cc_5523_04a4 ∷ 0xfff0_0000_0000_0001 ∷ 0x8f38_970d_1f32_9514 ∷ 0x5d1c_db44_da7d_89d4 ∷ 0x9a7f_4da6_a61c_1d0f ∷ []); order = 4 }

abbrev function20 : TransferFn
function20 = record { b = floats (0x0000_0000_0000_0000 ∷ 0x8000_0000_0000_0000 ∷ 0x8000_0000_0000_0000 ∷ 0x8000_0000_0000_0000 ∷ 0xbe50_0000_0000_0000 ∷ 0x800f_ffff_ffff_ffff ∷ 0x7ff0_0000_0000_0001 ∷ 0xbe50_0000_0000_0000 ∷ []); a = floats (0x3fe1_3066_5837_8400 ∷ 0xbffc_0421_b679_a1b8 ∷ 0xbffb_b093_8907_0d58 ∷ 0x4023_e390_4216_56ea ∷ 0xffff_ffff_ffff_ffff ∷ 0xfff8_0000_0000_0000 ∷ 0xffff_ffff_ffff_ffff ∷ 0xfff8_0000_0000_0000 ∷ []); order = 4 }

abbrev function21 : TransferFn
function21 = record { b = floats (0x0000_0000_0000_0000 ∷ 0x8000_0000_0000_0000 ∷ 0x8000_0000_0000_0000 ∷ 0x8000_0000_0000_0000 ∷ 0x8000_0000_0000_0000 ∷ 0x4d61_dfab_5f45_6d68 ∷ 0x7ff0_0000_0000_0001 ∷ 0xe6ca_b6e8_60a1_c19a ∷ []); a = floats (0xbff0_0000_0000_0000 ∷ 0x7fee_42d1_3077_3b76 ∷ 0xffee_42d1_3077_3b76 ∷ 0x0000_0000_0000_0000 ∷ 0x0000_0000_0000_0000 ∷ 0x6083_e99e_cd38_9789 ∷ 0x7ff4_0000_dead_beef ∷ 0x800f_ffff_ffff_ffff ∷ []); order = 5 }

unfoldable pub searches : List Row
unfolding of_bits
searches =
    (locus_point function19 (bits 0x3ff0_0000_0000_0000) 2 1 gives found (floats (0x3ff0_0000_0000_0000 ∷ 0xbfee_f309_749d_638a ∷ 0x3ff1_d85a_d164_014e ∷ 0x3ff8_0207_8425_6ac9 ∷ 0xbff2_571e_23a9_5e82 ∷ 0xbfee_f309_749d_638a ∷ 0xbff1_d85a_d164_014e ∷ 0x3ff8_0207_8425_6ac9 ∷ 0x3ff2_571e_23a9_5e82 ∷ []))) ∷
    (locus_point function20 (bits 0x40af_fe00_0000_0000) 4096 1 gives found (floats (0x3ff0_0000_0000_0000 ∷ 0xbff9_1e4d_0c70_c97b ∷ 0xbff2_92a7_df6e_7182 ∷ 0x3ff4_d233_7662_e87b ∷ 0xbfee_9d3c_ad68_ff50 ∷ 0xbff9_1e4d_0c70_c97b ∷ 0x3ff2_92a7_df6e_7182 ∷ 0x3ff4_d233_7662_e87b ∷ 0x3fee_9d3c_ad68_ff50 ∷ []))) ∷
    (locus_point function21 (bits 0x3ff0_0000_0000_0000) 33 32 gives found (floats (0x3ff0_0000_0000_0000 ∷ 0x3ff0_0000_0000_0000 ∷ 0x0000_0000_0000_0000 ∷ 0x7ff8_0000_0000_0000 ∷ 0x7ff0_0000_0000_0000 ∷ 0x7ff8_0000_0000_0000 ∷ 0x7ff8_0000_0000_0000 ∷ 0x7ff8_0000_0000_0000 ∷ 0x7ff8_0000_0000_0000 ∷ 0x7ff8_0000_0000_0000 ∷ 0x7ff8_0000_0000_0000 ∷ []))) ∷
    []

-- ---- poles with squared magnitude 1 or next to it, with a NaN, past the count; a count above 8

unfoldable pub regions : List Row
unfolding of_bits
regions =
    (stability_region ((bits 0x3fe4_37fa_8744_a858, bits 0xbfdf_96c8_6af6_3ae0) ∷ (bits 0x3fea_0fb8_1eed_5c5e, bits 0x3fe2_91a2_0bc5_e2b3) ∷ (bits 0xb261_2eca_0f46_a2d4, bits 0xb4cf_683a_f26d_ca77) ∷ (bits 0x0000_0000_0000_0000, bits 0x7ff0_0000_0000_0001) ∷ (bits 0xffff_ffff_ffff_ffff, bits 0x3cb0_0000_0000_0000) ∷ (bits 0x8c0b_b6d6_655c_5b2d, bits 0x5ff0_0000_0000_0000) ∷ (bits 0xfff0_0000_0000_0000, bits 0x7ff0_0000_0000_0001) ∷ (bits 0xfff0_0000_0000_0000, bits 0xb3fc_6ea9_bccc_327a) ∷ []) 2 gives found (floats (0x3ff0_0000_0000_0000 ∷ []))) ∷
    (stability_region ((bits 0xbf85_534e_bbbc_2200, bits 0xbfe3_1843_bbff_e03e) ∷ (bits 0xbfbb_b4ad_df6a_8d10, bits 0x3fef_cfe2_0fe8_4f68) ∷ (bits 0x0010_0000_0000_0000, bits 0x7b40_cd86_8599_d0f0) ∷ (bits 0xfff8_0000_0000_0000, bits 0xb9b9_361f_02d1_a356) ∷ (bits 0x7ff8_0000_0000_0000, bits 0x93ed_b507_1f1b_1dc6) ∷ (bits 0xe00b_0ffe_b0b7_abb4, bits 0xbb64_b84a_f697_f253) ∷ (bits 0x7ff8_0000_0000_0000, bits 0x7ff8_0000_0000_0000) ∷ (bits 0xffff_ffff_ffff_ffff, bits 0xbff8_0000_0000_0000) ∷ []) 2 gives found (floats (0x0000_0000_0000_0000 ∷ []))) ∷
    (stability_region ((bits 0xbfd2_6ac5_1b89_f923, bits 0x3fdf_90ef_8152_d748) ∷ (bits 0x3feb_5058_64e3_97e6, bits 0xbfe0_ac04_6b51_0e02) ∷ (bits 0xb5ca_214c_bce3_22ae, bits 0x8fc3_31bb_d92f_8dc5) ∷ (bits 0x1cfe_bb41_26eb_c023, bits 0x7ff0_0000_0000_0001) ∷ (bits 0x0010_0000_0000_0000, bits 0x7ff4_0000_dead_beef) ∷ (bits 0xffef_ffff_ffff_ffff, bits 0x05c1_e847_5fd8_3e9e) ∷ (bits 0x5916_9f88_5e08_cc91, bits 0x7ff4_0000_dead_beef) ∷ (bits 0xa70b_29e9_3d40_5cc1, bits 0x7ff4_0000_dead_beef) ∷ []) 2 gives found (floats (0x0000_0000_0000_0000 ∷ []))) ∷
    (stability_region ((bits 0x7fff_ffff_ffff_ffff, bits 0x4000_0000_0000_0000) ∷ (bits 0x3e50_0000_0000_0000, bits 0xfff0_0000_0000_0001) ∷ (bits 0xc412_0476_c71d_a56e, bits 0xb33a_db8a_dfba_aada) ∷ (bits 0x5ff0_0000_0000_0000, bits 0xfff8_0000_0000_0000) ∷ (bits 0x0000_0000_0000_0001, bits 0x7ff0_0000_0000_0001) ∷ (bits 0x0000_0000_0000_0000, bits 0xfff0_0000_0000_0001) ∷ (bits 0xd476_267e_694a_1d90, bits 0xb050_dd42_8429_8f79) ∷ (bits 0x3cb0_0000_0000_0000, bits 0x1a37_04f1_03db_ac93) ∷ []) 1 gives found (floats (0x3ff0_0000_0000_0000 ∷ []))) ∷
    (stability_region ((bits 0x3fe3_3d18_3df6_5946, bits 0x3fb7_6265_fe56_84b8) ∷ (bits 0xbfac_398f_1a99_4a10, bits 0x3fdc_4074_108a_fe40) ∷ (bits 0xbf86_1a2f_22e3_7400, bits 0xbf97_69ba_50d7_ba00) ∷ (bits 0xbfc0_f889_36f3_7690, bits 0x3fa9_d154_f70d_68c0) ∷ (bits 0xbfdb_19f0_7c3c_6d54, bits 0x3fe1_2188_1797_71d8) ∷ (bits 0xbfcf_47a0_2885_877a, bits 0xbf74_e3f6_969c_4700) ∷ (bits 0x3fdc_c320_f1a6_3d68, bits 0xbfc9_26b2_7dc0_e140) ∷ (bits 0x0000_0000_0000_0000, bits 0xbff0_0000_0000_0000) ∷ []) 7 gives found (floats (0x3ff0_0000_0000_0000 ∷ []))) ∷
    (stability_region ((bits 0xbfe1_08c4_d600_0e10, bits 0xbfe4_6d5e_d1bc_bf36) ∷ (bits 0x3fde_6eef_0b3b_724c, bits 0xbfe0_845e_c1f9_e30e) ∷ (bits 0x3fe6_494e_fa11_917a, bits 0xbfc1_1be7_9529_0d88) ∷ (bits 0xbf8e_240c_a2ad_5f40, bits 0xbfdf_708e_01b7_764a) ∷ (bits 0xbfd6_a86d_893a_46d0, bits 0x3fe2_02d5_a65e_324e) ∷ (bits 0x3fe1_cd31_5af7_19a6, bits 0x3fdf_ef02_6cb6_5e84) ∷ (bits 0x3f90_5688_21a8_42c0, bits 0xbfd4_e57b_c791_a2ad) ∷ (bits 0x0000_0000_0000_0000, bits 0xbff0_0000_0000_0000) ∷ []) 9 gives found (floats (0x0000_0000_0000_0000 ∷ []))) ∷
    []

-- ---- how the search ended: direct formulas, with NaNs and infinite poles; no poles; refusals

abbrev function22 : TransferFn
function22 = record { b = floats (0x0000_0000_0000_0000 ∷ 0x5ff0_0000_0000_0000 ∷ 0x7ff8_0000_0000_0000 ∷ 0x7ff4_0000_dead_beef ∷ 0xbff8_0000_0000_0000 ∷ 0xfff0_0000_0000_0000 ∷ 0xffff_ffff_ffff_ffff ∷ 0x7fff_ffff_ffff_ffff ∷ []); a = floats (0xbfe0_0000_0000_0000 ∷ 0xd869_6198_a9e3_93e4 ∷ 0x0010_0000_0000_0000 ∷ 0x3e50_0000_0000_0000 ∷ 0x800f_ffff_ffff_ffff ∷ 0x7ff4_0000_dead_beef ∷ 0x7ff0_0000_0000_0001 ∷ 0x7ff8_0000_0000_0000 ∷ []); order = 1 }

abbrev function23 : TransferFn
function23 = record { b = floats (0x0000_0000_0000_0000 ∷ 0x0000_0000_0000_0001 ∷ 0xf920_001d_200f_89c0 ∷ 0xffff_ffff_ffff_ffff ∷ 0x67dd_2253_fbfa_84de ∷ 0x7ff0_0000_0000_0001 ∷ 0x7ff0_0000_0000_0001 ∷ 0xffff_ffff_ffff_ffff ∷ []); a = floats (0x7ff8_0000_0000_0000 ∷ 0x7ff8_0000_0000_0000 ∷ 0xbff8_0000_0000_0000 ∷ 0xbff8_0000_0000_0000 ∷ 0x3ff0_0000_0000_0000 ∷ 0x7ff8_0000_0000_0000 ∷ 0x7ff4_0000_dead_beef ∷ 0x7ff8_0000_0000_0000 ∷ []); order = 1 }

abbrev function24 : TransferFn
function24 = record { b = floats (0xbff0_0000_0000_0000 ∷ 0x7ff0_0000_0000_0001 ∷ 0x4245_9cbe_88c8_ab59 ∷ 0xffff_ffff_ffff_ffff ∷ 0x7754_2adb_a413_a243 ∷ 0x7ff0_0000_0000_0001 ∷ 0xfff8_0000_0000_0000 ∷ 0xc0d4_a18a_0441_9311 ∷ []); a = floats (0x7ff8_0000_0000_0000 ∷ 0xba18_a995_69af_b5c4 ∷ 0xcc92_bcb5_2066_7718 ∷ 0xfff8_0000_0000_0000 ∷ 0x0000_0000_0000_0000 ∷ 0xc758_2569_e3d4_3344 ∷ 0x8000_0000_0000_0000 ∷ 0x7fff_ffff_ffff_ffff ∷ []); order = 1 }

abbrev function25 : TransferFn
function25 = record { b = floats (0x0000_0000_0000_0000 ∷ 0x3e50_0000_0000_0000 ∷ 0x7ff0_0000_0000_0000 ∷ 0x9a6b_7a50_90e1_62d6 ∷ 0xf267_310a_79b4_e016 ∷ 0xffef_ffff_ffff_ffff ∷ 0xfff8_0000_0000_0000 ∷ 0x7ff0_0000_0000_0000 ∷ []); a = floats (0xfff0_0000_0000_0000 ∷ 0xffef_ffff_ffff_ffff ∷ 0xe18a_7643_2e34_61a1 ∷ 0xbd78_eb55_706f_54d5 ∷ 0xc15e_3a04_ddd5_2730 ∷ 0x3cb0_0000_0000_0000 ∷ 0xffff_ffff_ffff_ffff ∷ 0x7ff0_0000_0000_0001 ∷ []); order = 1 }

abbrev function26 : TransferFn
function26 = record { b = floats (0x3ff0_0000_0000_0000 ∷ 0x8000_0000_0000_0000 ∷ 0x20ab_04fd_889d_9d22 ∷ 0x7ff4_0000_dead_beef ∷ 0xecf6_0bef_eb46_23c5 ∷ 0x4b2c_8473_12cd_8e7f ∷ 0x31e0_acce_5f25_8d11 ∷ 0x1d72_b6a5_5194_ac4a ∷ []); a = floats (0xbff8_0000_0000_0000 ∷ 0x3fd0_0000_0000_0000 ∷ 0x2ff8_e857_9eef_1c3b ∷ 0xffff_ffff_ffff_ffff ∷ 0xbe39_e8f0_4ed5_20b0 ∷ 0xced0_c66d_4fa7_f3c1 ∷ 0x800f_ffff_ffff_ffff ∷ 0xfff8_0000_0000_0000 ∷ []); order = 2 }

abbrev function27 : TransferFn
function27 = record { b = floats (0xbfe0_0000_0000_0000 ∷ 0x8000_0000_0000_0000 ∷ 0xffef_ffff_ffff_ffff ∷ 0x7ff0_0000_0000_0001 ∷ 0xbe50_0000_0000_0000 ∷ 0xfff0_0000_0000_0001 ∷ 0x0000_0000_0000_0001 ∷ 0x0010_0000_0000_0000 ∷ []); a = floats (0x3ff0_0000_0000_0000 ∷ 0x7ff8_0000_0000_0000 ∷ 0xfc92_a301_cd42_1f29 ∷ 0x0485_c28b_fde8_8f9c ∷ 0xfff0_0000_0000_0001 ∷ 0x3b63_6d14_8b65_8e33 ∷ 0x7fff_ffff_ffff_ffff ∷ 0x7ff0_0000_0000_0001 ∷ []); order = 2 }

abbrev function28 : TransferFn
function28 = record { b = floats (0x0000_0000_0000_0000 ∷ 0x8000_0000_0000_0000 ∷ 0x5ff0_0000_0000_0000 ∷ 0x0010_0000_0000_0000 ∷ 0xbff8_0000_0000_0000 ∷ 0x361d_f910_15cc_cdc9 ∷ 0xfff8_0000_0000_0000 ∷ 0xf4e6_38e5_0f5e_7488 ∷ []); a = floats (0x7ff0_0000_0000_0000 ∷ 0x3ff0_0000_0000_0000 ∷ 0xfff8_0000_0000_0000 ∷ 0xd07d_b0cc_a453_bca4 ∷ 0x7ff0_0000_0000_0001 ∷ 0x7fff_ffff_ffff_ffff ∷ 0x7ff8_0000_0000_0000 ∷ 0x7fff_ffff_ffff_ffff ∷ []); order = 2 }

abbrev function29 : TransferFn
function29 = record { b = floats (0x0000_0000_0000_0000 ∷ 0x8000_0000_0000_0000 ∷ 0xafea_f62f_f166_48b5 ∷ 0x7fff_ffff_ffff_ffff ∷ 0x3cb0_0000_0000_0000 ∷ 0xfff0_0000_0000_0001 ∷ 0xfa40_6c05_5e48_23ec ∷ 0xffff_ffff_ffff_ffff ∷ []); a = floats (0xfff0_0000_0000_0000 ∷ 0x3ff0_0000_0000_0000 ∷ 0x5fbd_9f85_5a83_7491 ∷ 0xffff_ffff_ffff_ffff ∷ 0x8000_0000_0000_0000 ∷ 0x0000_0000_0000_0000 ∷ 0x1479_e3b9_82af_cb1a ∷ 0xc4e5_ee7f_ed35_df61 ∷ []); order = 2 }

abbrev function30 : TransferFn
function30 = record { b = floats (0x0000_0000_0000_0000 ∷ 0x8000_0000_0000_0000 ∷ 0xffff_ffff_ffff_ffff ∷ 0x017d_d512_413a_76d5 ∷ 0xffff_ffff_ffff_ffff ∷ 0xdd84_6504_6bd2_9b13 ∷ 0xfff0_0000_0000_0001 ∷ 0xc4c2_bc45_4e03_769d ∷ []); a = floats (0x3ff0_0000_0000_0000 ∷ 0x7ff0_0000_0000_0000 ∷ 0xffff_ffff_ffff_ffff ∷ 0x4685_60b3_313d_8b60 ∷ 0xa9fa_f64b_7210_94a2 ∷ 0xfff8_0000_0000_0000 ∷ 0x7fff_ffff_ffff_ffff ∷ 0xd576_8830_c814_f294 ∷ []); order = 2 }

abbrev function31 : TransferFn
function31 = record { b = floats (0x0000_0000_0000_0000 ∷ 0x8000_0000_0000_0000 ∷ 0x8000_0000_0000_0000 ∷ 0x3e50_0000_0000_0000 ∷ 0x7ff0_0000_0000_0000 ∷ 0xfff8_0000_0000_0000 ∷ 0xfff0_0000_0000_0000 ∷ 0x9cff_e5da_c716_f2e0 ∷ []); a = floats (0xbfe0_0000_0000_0000 ∷ 0x3fd0_0000_0000_0000 ∷ 0x4000_0000_0000_0000 ∷ 0x7fff_ffff_ffff_ffff ∷ 0xfff0_0000_0000_0001 ∷ 0xbe50_0000_0000_0000 ∷ 0xa5d6_a239_aea5_0eed ∷ 0xfff8_0000_0000_0000 ∷ []); order = 3 }

abbrev function32 : TransferFn
function32 = record { b = floats (0x0000_0000_0000_0000 ∷ 0x8000_0000_0000_0000 ∷ 0x3ff0_0000_0000_0000 ∷ 0x9ff5_18b7_1056_1db6 ∷ 0x0010_0000_0000_0000 ∷ 0xfff8_0000_0000_0000 ∷ 0x04ac_690b_ecd9_cbf6 ∷ 0x0686_8bf7_666d_651c ∷ []); a = floats (0x4000_0000_0000_0000 ∷ 0x7ff8_0000_0000_0000 ∷ 0xfff0_0000_0000_0001 ∷ 0x7ff8_0000_0000_0000 ∷ 0xfff8_0000_0000_0000 ∷ 0xffff_ffff_ffff_ffff ∷ 0xfff0_0000_0000_0001 ∷ 0xf65b_2a47_8a65_9263 ∷ []); order = 2 }

unfoldable pub endings : List Row
unfolding of_bits
endings =
    (locus_ending function22 (bits 0x3ff0_0000_0000_0000) 33 32 gives found (floats (0x0000_0000_0000_0000 ∷ 0x0000_0000_0000_0000 ∷ []))) ∷
    (locus_ending function23 (bits 0x3ff0_0000_0000_0000) 33 32 gives found (floats (0x4000_0000_0000_0000 ∷ 0x0000_0000_0000_0000 ∷ []))) ∷
    (locus_ending function24 (bits 0x3ff0_0000_0000_0000) 2 1 gives found (floats (0x0000_0000_0000_0000 ∷ 0x0000_0000_0000_0000 ∷ []))) ∷
    (locus_ending function25 (bits 0x3ff0_0000_0000_0000) 2 1 gives found (floats (0x0000_0000_0000_0000 ∷ 0x0000_0000_0000_0000 ∷ []))) ∷
    (locus_ending function26 (bits 0x3ff0_0000_0000_0000) 4096 4095 gives found (floats (0x0000_0000_0000_0000 ∷ 0x0000_0000_0000_0000 ∷ []))) ∷
    (locus_ending function27 (bits 0x3ff0_0000_0000_0000) 33 32 gives found (floats (0x4000_0000_0000_0000 ∷ 0x0000_0000_0000_0000 ∷ []))) ∷
    (locus_ending function28 (bits 0x3ff0_0000_0000_0000) 4096 4095 gives found (floats (0x4000_0000_0000_0000 ∷ 0x0000_0000_0000_0000 ∷ []))) ∷
    (locus_ending function29 (bits 0x3ff0_0000_0000_0000) 4096 4095 gives found (floats (0x4000_0000_0000_0000 ∷ 0x0000_0000_0000_0000 ∷ []))) ∷
    (locus_ending function30 (bits 0x3ff0_0000_0000_0000) 33 32 gives found (floats (0x0000_0000_0000_0000 ∷ 0x0000_0000_0000_0000 ∷ []))) ∷
    (locus_ending function31 (bits 0x3ff0_0000_0000_0000) 4096 4095 gives refused 12) ∷
    (locus_ending function32 (bits 0x40af_fe00_0000_0000) 4096 4096 gives refused 17) ∷
    []

-- ---- how the search ended: settled in round 1; broken in it, with the first pole or with none that is not NaN

abbrev function33 : TransferFn
function33 = record { b = floats (0x0000_0000_0000_0000 ∷ 0x8000_0000_0000_0000 ∷ 0x8000_0000_0000_0000 ∷ 0x8000_0000_0000_0000 ∷ 0x7ff4_0000_dead_beef ∷ 0x7ff0_0000_0000_0001 ∷ 0xf42b_62f3_2779_26e5 ∷ 0xfff0_0000_0000_0001 ∷ []); a = floats (0x0000_0000_0000_0000 ∷ 0x0000_0000_0000_0000 ∷ 0x0000_0000_0000_0000 ∷ 0xbff0_0000_0000_0000 ∷ 0x66c3_72c2_4fec_82bf ∷ 0xfff8_0000_0000_0000 ∷ 0x0000_0000_0000_0001 ∷ 0x7ff0_0000_0000_0000 ∷ []); order = 4 }

abbrev function34 : TransferFn
function34 = record { b = floats (0x0000_0000_0000_0000 ∷ 0x8000_0000_0000_0000 ∷ 0x8000_0000_0000_0000 ∷ 0x8000_0000_0000_0000 ∷ 0x8000_0000_0000_0000 ∷ 0xbe50_0000_0000_0000 ∷ 0x7ff8_0000_0000_0000 ∷ 0x4174_6a4e_f993_f726 ∷ []); a = floats (0xbff0_0000_0000_0000 ∷ 0x7fee_42d1_3077_3b76 ∷ 0xffee_42d1_3077_3b76 ∷ 0x0000_0000_0000_0000 ∷ 0x0000_0000_0000_0000 ∷ 0xfff0_0000_0000_0001 ∷ 0x9646_2a32_81a8_a66c ∷ 0x7ff4_0000_dead_beef ∷ []); order = 5 }

abbrev function35 : TransferFn
function35 = record { b = floats (0x0000_0000_0000_0000 ∷ 0x8000_0000_0000_0000 ∷ 0x8000_0000_0000_0000 ∷ 0x8000_0000_0000_0000 ∷ 0x7fff_ffff_ffff_ffff ∷ 0x3e50_0000_0000_0000 ∷ 0xc4a0_b0dc_2d75_344c ∷ 0x106e_65d3_2ca0_1957 ∷ []); a = floats (0x3fe0_0000_0000_0000 ∷ 0x7ff8_0000_0000_0000 ∷ 0xbfd0_0000_0000_0000 ∷ 0x4000_0000_0000_0000 ∷ 0xbff8_0000_0000_0000 ∷ 0x8000_0000_0000_0000 ∷ 0xf98f_3868_1e7c_677b ∷ 0xfff0_0000_0000_0001 ∷ []); order = 4 }

unfoldable pub ended_at_once : List Row
unfolding of_bits
ended_at_once =
    (locus_ending function33 (bits 0x3ff0_0000_0000_0000) 4096 4095 gives found (floats (0x0000_0000_0000_0000 ∷ 0x3ff0_0000_0000_0000 ∷ []))) ∷
    (locus_ending function34 (bits 0x3ff0_0000_0000_0000) 33 32 gives found (floats (0x4000_0000_0000_0000 ∷ 0x0000_0000_0000_0000 ∷ []))) ∷
    (locus_ending function35 (bits 0x4000_0000_0000_0000) 3 1 gives found (floats (0x4000_0000_0000_0000 ∷ 0x0000_0000_0000_0000 ∷ []))) ∷
    []

-- ---- how the search ended: settled in rounds 2 and 5; broken in round 2

abbrev function36 : TransferFn
function36 = record { b = floats (0x0000_0000_0000_0000 ∷ 0x8000_0000_0000_0000 ∷ 0x8000_0000_0000_0000 ∷ 0x8000_0000_0000_0000 ∷ 0x0f05_ba0f_0070_f0d7 ∷ 0xfff0_0000_0000_0000 ∷ 0x3cb0_0000_0000_0000 ∷ 0xaf97_0258_22b9_750f ∷ []); a = floats (0x0000_0000_0000_0000 ∷ 0x0000_0000_0000_0000 ∷ 0x0000_0000_0000_0000 ∷ 0xbff0_0001_0000_0000 ∷ 0x0000_0000_0000_0000 ∷ 0x7ff0_0000_0000_0001 ∷ 0xc96e_a4d1_a8c2_f736 ∷ 0x3cb0_0000_0000_0000 ∷ []); order = 4 }

abbrev function37 : TransferFn
function37 = record { b = floats (0x0000_0000_0000_0000 ∷ 0x8000_0000_0000_0000 ∷ 0x8000_0000_0000_0000 ∷ 0x8000_0000_0000_0000 ∷ 0x7fff_ffff_ffff_ffff ∷ 0x0000_0000_0000_0001 ∷ 0x51bd_666d_6953_651b ∷ 0x0010_0000_0000_0000 ∷ []); a = floats (0x0000_0000_0000_0000 ∷ 0x0000_0000_0000_0000 ∷ 0x0000_0000_0000_0000 ∷ 0xc000_0000_0000_0000 ∷ 0x3cb0_0000_0000_0000 ∷ 0xffef_ffff_ffff_ffff ∷ 0xc370_be33_57dc_6a16 ∷ 0xfff8_0000_0000_0000 ∷ []); order = 4 }

abbrev function38 : TransferFn
function38 = record { b = floats (0x0000_0000_0000_0000 ∷ 0x8000_0000_0000_0000 ∷ 0x8000_0000_0000_0000 ∷ 0x8000_0000_0000_0000 ∷ 0xe76c_e1a3_6494_2b88 ∷ 0x7ff8_0000_0000_0000 ∷ 0xfae6_c061_8122_fe42 ∷ 0x7ff0_0000_0000_0001 ∷ []); a = floats (0xc008_0000_0000_0000 ∷ 0xbff0_0000_0000_0000 ∷ 0xc008_0000_0000_0000 ∷ 0x4a30_0000_0000_0000 ∷ 0xac0a_63b4_6e1b_a218 ∷ 0x016a_3069_c7ec_2949 ∷ 0x8000_0000_0000_0000 ∷ 0xfff8_0000_0000_0000 ∷ []); order = 4 }

unfoldable pub ended_soon : List Row
unfolding of_bits
ended_soon =
    (locus_ending function36 (bits 0x3ff0_0000_0000_0000) 33 32 gives found (floats (0x0000_0000_0000_0000 ∷ 0x4000_0000_0000_0000 ∷ []))) ∷
    (locus_ending function37 (bits 0x3ff0_0000_0000_0000) 4096 4095 gives found (floats (0x0000_0000_0000_0000 ∷ 0x4014_0000_0000_0000 ∷ []))) ∷
    (locus_ending function38 (bits 0x3ff0_0000_0000_0000) 4096 4095 gives found (floats (0x4000_0000_0000_0000 ∷ 0x0000_0000_0000_0000 ∷ []))) ∷
    []

-- ---- sweeps of several styles; pairs that enclose a crossover or just do not; differences of eps or next to it; the sign of a crossover of 0; a level that is rounded; refusals

abbrev bode1 : Bode
bode1 =
    record {
      omega = floats (0x3f9b_1e8c_7b50_2ce7 ∷ 0x3fa4_f4ed_8250_a54b ∷ 0x3fb0_6eb3_5c50_8600 ∷ 0x3fb5_c21a_b231_c119 ∷ 0x3fc4_a47d_b8c0_62d9 ∷ 0x3fd2_813b_ba34_56a4 ∷ []);
      db = floats (0x403d_6fba_98ae_a303 ∷ 0x403d_5fe8_fed8_5237 ∷ 0x4031_8aa6_12b9_049e ∷ 0x4024_03f7_ad29_8e41 ∷ 0x4012_ca42_c912_043c ∷ 0xbff3_2d83_2446_0970 ∷ []);
      phase = floats (0xc064_ce2a_b4a5_72ee ∷ 0xc065_c7ae_62a5_44a5 ∷ 0xc065_f12c_1072_67c8 ∷ 0xc067_5218_231a_9ba3 ∷ 0xc067_ec2d_1f63_fec5 ∷ 0xc068_3854_50ca_9821 ∷ []);
    }

abbrev sensitivity1 : Sensitivity
sensitivity1 =
    record {
      omega = floats (0x3f9b_1e8c_7b50_2ce7 ∷ 0x3fa4_f4ed_8250_a54b ∷ 0x3fb0_6eb3_5c50_8600 ∷ 0x3fb5_c21a_b231_c119 ∷ 0x3fc4_a47d_b8c0_62d9 ∷ 0x3fd2_813b_ba34_56a4 ∷ []);
      s = floats (0x403d_6fba_98ae_a303 ∷ 0x403d_5fe8_fed8_5237 ∷ 0x4031_8aa6_12b9_049e ∷ 0x4024_03f7_ad29_8e41 ∷ 0x4012_ca42_c912_043c ∷ 0xbff3_2d83_2446_0970 ∷ []);
      t = floats (0x4030_b178_6de7_cf50 ∷ 0x402a_b2fb_2cc3_c804 ∷ 0x4021_8cbd_c28f_e610 ∷ 0x4006_82a0_6767_3978 ∷ 0xc021_214d_6bfd_3047 ∷ 0xc025_0b39_4c75_9c02 ∷ []);
    }

abbrev bode2 : Bode
bode2 =
    record {
      omega = floats (0x4020_c3d4_528b_40d2 ∷ 0x4023_8e49_bf1b_fe05 ∷ 0x4019_0bf4_d2cd_c05c ∷ 0x4017_8aa1_b2c7_bdac ∷ 0x4013_6cfc_3f4c_a11b ∷ 0x4023_a9e1_2c00_41ff ∷ []);
      db = floats (0xc015_a2fb_9ced_0a88 ∷ 0x401c_e15a_de0e_848c ∷ 0xc00e_8b72_f492_d194 ∷ 0x4010_4df6_201d_da64 ∷ 0xc016_9486_1750_0a6a ∷ 0xbfd6_8a0d_bcae_f660 ∷ []);
      phase = floats (0xc067_a1c2_f4a3_cbea ∷ 0xc067_83f4_a072_be9b ∷ 0xc065_8625_ff7b_4613 ∷ 0xc065_f298_fb61_e6ab ∷ 0xc067_918a_a702_24e4 ∷ 0xc066_57df_2c4e_ceaa ∷ []);
    }

abbrev sensitivity2 : Sensitivity
sensitivity2 =
    record {
      omega = floats (0x4020_c3d4_528b_40d2 ∷ 0x4023_8e49_bf1b_fe05 ∷ 0x4019_0bf4_d2cd_c05c ∷ 0x4017_8aa1_b2c7_bdac ∷ 0x4013_6cfc_3f4c_a11b ∷ 0x4023_a9e1_2c00_41ff ∷ []);
      s = floats (0xc015_a2fb_9ced_0a88 ∷ 0x401c_e15a_de0e_848c ∷ 0xc00e_8b72_f492_d194 ∷ 0x4010_4df6_201d_da64 ∷ 0xc016_9486_1750_0a6a ∷ 0xbfd6_8a0d_bcae_f660 ∷ []);
      t = floats (0x4017_5aa4_f74b_d740 ∷ 0xc01f_a1b4_19c6_3840 ∷ 0x400d_2f84_5e6b_c598 ∷ 0x4001_f869_2257_6238 ∷ 0x4023_6abe_8c32_2da8 ∷ 0xbfaa_56c1_023e_2d00 ∷ []);
    }

abbrev bode3 : Bode
bode3 =
    record {
      omega = floats (0x4000_0000_0000_0000 ∷ 0x4008_0000_0000_0000 ∷ 0x3ff0_0000_0000_0000 ∷ 0x4000_0000_0000_0000 ∷ 0x4000_0000_0000_0000 ∷ 0x4008_0000_0000_0000 ∷ []);
      db = floats (0xbcb0_0000_0000_0000 ∷ 0x0000_0000_0000_0001 ∷ 0x3ff0_0000_0000_0000 ∷ 0x0000_0000_0000_0000 ∷ 0x0000_0000_0000_0001 ∷ 0x0000_0000_0000_0001 ∷ []);
      phase = floats (0xc066_8000_0000_0000 ∷ 0xc066_8000_0000_0000 ∷ 0xc066_8000_0000_0000 ∷ 0xc066_e000_0000_0000 ∷ 0xc066_8000_0000_0001 ∷ 0xc066_7fff_ffff_ffff ∷ []);
    }

abbrev sensitivity3 : Sensitivity
sensitivity3 =
    record {
      omega = floats (0x4000_0000_0000_0000 ∷ 0x4008_0000_0000_0000 ∷ 0x3ff0_0000_0000_0000 ∷ 0x4000_0000_0000_0000 ∷ 0x4000_0000_0000_0000 ∷ 0x4008_0000_0000_0000 ∷ []);
      s = floats (0xbcb0_0000_0000_0000 ∷ 0x0000_0000_0000_0001 ∷ 0x3ff0_0000_0000_0000 ∷ 0x0000_0000_0000_0000 ∷ 0x0000_0000_0000_0001 ∷ 0x0000_0000_0000_0001 ∷ []);
      t = floats (0x0000_0000_0000_0000 ∷ 0xbcb0_0000_0000_0000 ∷ 0x3cb0_0000_0000_0000 ∷ 0xbcb0_0000_0000_0000 ∷ 0xbcb0_0000_0000_0000 ∷ 0x3cb0_0000_0000_0000 ∷ []);
    }

abbrev bode4 : Bode
bode4 =
    record {
      omega = floats (0x3fad_c2c2_640e_abe8 ∷ 0x3fb8_9ba7_a6b2_35d3 ∷ 0x3fc5_7975_a721_5e44 ∷ 0x3fd0_4f82_3ff8_8548 ∷ 0x3fdc_ebbf_8ae3_5049 ∷ 0x3fe5_c29b_a1ec_d656 ∷ []);
      db = floats (0x4023_bb8e_6d94_8b52 ∷ 0xbfe5_bfd5_6383_be80 ∷ 0x4023_691a_4092_1de6 ∷ 0xc013_d9ab_f007_36f2 ∷ 0xbff9_e015_5ca3_6d80 ∷ 0xffef_ffff_ffff_ffff ∷ []);
      phase = floats (0x800f_ffff_ffff_ffff ∷ 0xc067_be80_922c_c958 ∷ 0x0000_0000_0000_0000 ∷ 0xc065_aa8f_ebe3_c875 ∷ 0xc067_7f22_79a7_78e6 ∷ 0xc067_0976_9139_ee95 ∷ []);
    }

abbrev sensitivity4 : Sensitivity
sensitivity4 =
    record {
      omega = floats (0x3fad_c2c2_640e_abe8 ∷ 0x3fb8_9ba7_a6b2_35d3 ∷ 0x3fc5_7975_a721_5e44 ∷ 0x3fd0_4f82_3ff8_8548 ∷ 0x3fdc_ebbf_8ae3_5049 ∷ 0x3fe5_c29b_a1ec_d656 ∷ []);
      s = floats (0x4023_bb8e_6d94_8b52 ∷ 0xbfe5_bfd5_6383_be80 ∷ 0x4023_691a_4092_1de6 ∷ 0xc013_d9ab_f007_36f2 ∷ 0xbff9_e015_5ca3_6d80 ∷ 0xffef_ffff_ffff_ffff ∷ []);
      t = floats (0xc019_3a09_b533_bf64 ∷ 0x4003_2049_2ca0_4f44 ∷ 0xc020_0b25_420b_89ce ∷ 0xfff0_0000_0000_0000 ∷ 0xc015_e080_b530_fa0d ∷ 0x4019_4bee_a1a7_5c20 ∷ []);
    }

abbrev bode5 : Bode
bode5 =
    record {
      omega = floats (0x4004_0000_0000_0000 ∷ 0x4010_0000_0000_0000 ∷ 0x4000_0000_0000_0000 ∷ 0x4008_0000_0000_0000 ∷ []);
      db = floats (0x4014_0000_0000_0000 ∷ 0x4012_0000_0000_0000 ∷ 0x3ff0_0000_0000_0000 ∷ 0xbff0_0000_0000_0000 ∷ []);
      phase = floats (0xc059_0000_0000_0000 ∷ 0xc05e_4000_0000_0000 ∷ 0xc065_4000_0000_0000 ∷ 0xc067_c000_0000_0000 ∷ []);
    }

abbrev bode6 : Bode
bode6 =
    record {
      omega = floats (0x4004_0000_0000_0001 ∷ 0x4010_0000_0000_0000 ∷ 0x4000_0000_0000_0000 ∷ 0x4008_0000_0000_0000 ∷ []);
      db = floats (0x4014_0000_0000_0000 ∷ 0x4012_0000_0000_0000 ∷ 0x3ff0_0000_0000_0000 ∷ 0xbff0_0000_0000_0000 ∷ []);
      phase = floats (0xc059_0000_0000_0000 ∷ 0xc05e_4000_0000_0000 ∷ 0xc065_4000_0000_0000 ∷ 0xc067_c000_0000_0000 ∷ []);
    }

abbrev bode7 : Bode
bode7 =
    record {
      omega = floats (0x4008_0000_0000_0000 ∷ 0x3fe0_0000_0000_0000 ∷ []);
      db = floats (0x3c80_a9dc_9903_83e4 ∷ 0xbcab_d588_d9bf_1f06 ∷ []);
      phase = floats (0xc066_8000_0000_0000 ∷ 0xc065_4000_0000_0000 ∷ []);
    }

abbrev sensitivity5 : Sensitivity
sensitivity5 =
    record {
      omega = floats (0x4008_0000_0000_0000 ∷ 0x3fe0_0000_0000_0000 ∷ []);
      s = floats (0x3c80_a9dc_9903_83e4 ∷ 0xbcab_d588_d9bf_1f06 ∷ []);
      t = floats (0x4008_0000_0000_0000 ∷ 0x8000_0000_0000_0000 ∷ []);
    }

abbrev bode8 : Bode
bode8 =
    record {
      omega = floats (0x3fb9_9999_9999_999a ∷ 0x3fd3_3333_3333_3333 ∷ []);
      db = floats (0xbca3_8d69_0d03_d5c2 ∷ 0x3c98_e52d_e5f8_547c ∷ []);
      phase = floats (0xc066_8000_0000_0000 ∷ 0xc065_4000_0000_0000 ∷ []);
    }

abbrev sensitivity6 : Sensitivity
sensitivity6 =
    record {
      omega = floats (0x3fb9_9999_9999_999a ∷ 0x3fd3_3333_3333_3333 ∷ []);
      s = floats (0xbca3_8d69_0d03_d5c2 ∷ 0x3c98_e52d_e5f8_547c ∷ []);
      t = floats (0x4008_0000_0000_0000 ∷ 0x8000_0000_0000_0000 ∷ []);
    }

abbrev bode9 : Bode
bode9 =
    record {
      omega = floats (0x3fb9_9999_9999_999a ∷ 0x3fd3_3333_3333_3333 ∷ []);
      db = floats (0x3c95_177f_fc08_bc50 ∷ 0xbca5_7440_01fb_a1da ∷ []);
      phase = floats (0xc066_8000_0000_0000 ∷ 0xc065_4000_0000_0000 ∷ []);
    }

abbrev sensitivity7 : Sensitivity
sensitivity7 =
    record {
      omega = floats (0x3fb9_9999_9999_999a ∷ 0x3fd3_3333_3333_3333 ∷ []);
      s = floats (0x3c95_177f_fc08_bc50 ∷ 0xbca5_7440_01fb_a1da ∷ []);
      t = floats (0x4008_0000_0000_0000 ∷ 0x8000_0000_0000_0000 ∷ []);
    }

abbrev bode10 : Bode
bode10 =
    record {
      omega = floats (0x8000_0000_0000_0000 ∷ 0x3ff0_0000_0000_0000 ∷ []);
      db = floats (0x0000_0000_0000_0000 ∷ 0x4014_0000_0000_0000 ∷ []);
      phase = floats (0xc066_8000_0000_0000 ∷ 0xc065_4000_0000_0000 ∷ []);
    }

abbrev sensitivity8 : Sensitivity
sensitivity8 =
    record {
      omega = floats (0x8000_0000_0000_0000 ∷ 0x3ff0_0000_0000_0000 ∷ []);
      s = floats (0x0000_0000_0000_0000 ∷ 0x4014_0000_0000_0000 ∷ []);
      t = floats (0x0000_0000_0000_0000 ∷ 0xc010_0000_0000_0000 ∷ []);
    }

abbrev sensitivity9 : Sensitivity
sensitivity9 =
    record {
      omega = floats (0x3ff0_0000_0000_0000 ∷ 0x4000_0000_0000_0000 ∷ 0x4010_0000_0000_0000 ∷ []);
      s = floats (0x4350_0000_0000_0001 ∷ 0x4350_0000_0000_0000 ∷ 0x434f_ffff_ffff_ffff ∷ []);
      t = floats (0x4350_0000_0000_0001 ∷ 0x4350_0000_0000_0000 ∷ 0x434f_ffff_ffff_ffff ∷ []);
    }

abbrev curve1 : Curve
curve1 =
    record {
      re = floats (0x3ff4_e093_01c8_a1c0 ∷ 0xc018_332c_47d4_de70 ∷ 0x4019_5282_dee4_53a8 ∷ 0xc020_5c2c_6980_3d66 ∷ 0xc01b_c3d8_cde0_9459 ∷ []);
      im = floats (0xc022_300c_62d1_24d2 ∷ 0x401c_c72f_7fc3_bfc8 ∷ 0x4019_ffa0_c692_5be4 ∷ 0xc012_e811_3f63_9ec8 ∷ 0x3ff1_4db1_9d5c_37d0 ∷ []);
    }

abbrev curve2 : Curve
curve2 =
    record {
      re = floats (0x3e50_0000_0000_0000 ∷ 0xc016_53da_8462_8d87 ∷ 0xbfc4_7fe2_e4ba_bec0 ∷ 0xc014_6d58_55c7_cdb4 ∷ 0xc01e_9e55_dcb3_a4b4 ∷ []);
      im = floats (0x3cb0_0000_0000_0000 ∷ 0x3fe2_7278_fb0c_5420 ∷ 0xbff7_fba7_e9aa_1ee0 ∷ 0xc023_b542_2356_e67a ∷ 0xc00a_ec14_26c2_036c ∷ []);
    }

abbrev curve3 : Curve
curve3 =
    record {
      re = floats (0x0000_0000_0000_0000 ∷ 0xfff0_0000_0000_0000 ∷ 0xffef_ffff_ffff_ffff ∷ 0x3cb0_0000_0000_0000 ∷ 0xbe50_0000_0000_0000 ∷ []);
      im = floats (0xfff8_0000_0000_0000 ∷ 0x3e50_0000_0000_0000 ∷ 0xffef_ffff_ffff_ffff ∷ 0x800f_ffff_ffff_ffff ∷ 0x3e50_0000_0000_0000 ∷ []);
    }

abbrev bode11 : Bode
bode11 =
    record {
      omega = floats (0xc00d_ff00_9445_2980 ∷ 0x4003_04c7_de7f_1420 ∷ []);
      db = floats (0x4020_4a5d_7d0a_9412 ∷ 0x4023_1c33_e33a_07cc ∷ []);
      phase = floats (0x4020_bcda_4233_b7e6 ∷ []);
    }

abbrev sensitivity10 : Sensitivity
sensitivity10 =
    record {
      omega = floats (0xc022_de21_340d_a1d8 ∷ []);
      s = floats (0x4023_4c85_f1a2_a53c ∷ 0xc023_3474_fb77_1ede ∷ []);
      t = floats (0x4013_4ec7_eb34_4e2c ∷ 0xc022_d3b7_2576_3a87 ∷ []);
    }

abbrev curve4 : Curve
curve4 =
    record {
      re = floats (0x4016_d9de_cbbe_9ba8 ∷ []);
      im = floats (0xc023_e568_7220_67c3 ∷ 0xc010_4c14_e36e_4ae3 ∷ []);
    }

abbrev bode12 : Bode
bode12 =
    record {
      omega = replicate 4096 (bits 0x400e_0643_39c1_dc28) ++ floats (0x400e_0643_39c1_dc28 ∷ []);
      db = replicate 4096 (bits 0xc020_3b86_1854_9a45) ++ floats (0xc020_3b86_1854_9a45 ∷ []);
      phase = replicate 4096 (bits 0xc023_cae6_7ee6_65be) ++ floats (0xc023_cae6_7ee6_65be ∷ []);
    }

abbrev curve5 : Curve
curve5 =
    record {
      re = replicate 4096 (bits 0x4023_9631_ad28_60f8) ++ floats (0x4023_9631_ad28_60f8 ∷ []);
      im = replicate 4096 (bits 0xc01e_9ea6_b1c3_0586) ++ floats (0xc01e_9ea6_b1c3_0586 ∷ []);
    }

unfoldable pub scans : List Row
unfolding of_bits
scans =
    (gain_crossover bode1 gives found (floats (0x3fd0_d759_1356_6186 ∷ []))) ∷
    (phase_crossover bode1 gives found (floats (0x3fb2_9678_9d73_5126 ∷ []))) ∷
    (gain_margin bode1 gives found (floats (0xc02c_fc3b_a589_58a3 ∷ []))) ∷
    (phase_margin bode1 gives found (floats (0xc02a_8d92_e7bc_dbb0 ∷ []))) ∷
    (sensitivity_crossover sensitivity1 gives none) ∷
    (bandwidth sensitivity1 gives found (floats (0x3fa4_324b_0987_fa28 ∷ []))) ∷
    (gain_crossover bode2 gives found (floats (0x4021_f5d5_e32c_d1d5 ∷ []))) ∷
    (phase_crossover bode2 gives found (floats (0x401f_f095_de5d_bd5e ∷ []))) ∷
    (gain_margin bode2 gives found (floats (0x4002_88f9_41b3_c025 ∷ []))) ∷
    (phase_margin bode2 gives found (floats (0xc021_4fed_94df_7150 ∷ []))) ∷
    (sensitivity_crossover sensitivity2 gives found (floats (0x4021_f481_195c_fdf3 ∷ []))) ∷
    (bandwidth sensitivity2 gives found (floats (0x4021_5fc0_70f0_9a36 ∷ []))) ∷
    (gain_crossover bode3 gives found (floats (0x4008_0000_0000_0000 ∷ []))) ∷
    (phase_crossover bode3 gives found (floats (0x4004_0000_0000_0000 ∷ []))) ∷
    (gain_margin bode3 gives found (floats (0x3ca0_0000_0000_0000 ∷ []))) ∷
    (phase_margin bode3 gives found (floats (0x0000_0000_0000_0000 ∷ []))) ∷
    (sensitivity_crossover sensitivity3 gives found (floats (0x4004_0000_0000_0000 ∷ []))) ∷
    (bandwidth sensitivity3 gives none) ∷
    (gain_crossover bode4 gives found (floats (0x3fb7_fb29_6ae5_3394 ∷ []))) ∷
    (phase_crossover bode4 gives found (floats (0x3fb8_192b_4978_4054 ∷ []))) ∷
    (gain_margin bode4 gives found (floats (0x3fc0_440e_fbaa_6200 ∷ []))) ∷
    (phase_margin bode4 gives found (floats (0x4002_4fa9_1fa1_7900 ∷ []))) ∷
    (sensitivity_crossover sensitivity4 gives found (floats (0x3fb7_0e50_23b8_cdd8 ∷ []))) ∷
    (bandwidth sensitivity4 gives found (floats (0x3fc5_7975_a721_5e44 ∷ []))) ∷
    (gain_crossover bode5 gives found (floats (0x4004_0000_0000_0000 ∷ []))) ∷
    (phase_crossover bode5 gives found (floats (0x4004_0000_0000_0000 ∷ []))) ∷
    (gain_margin bode5 gives found (floats (0xc014_0000_0000_0000 ∷ []))) ∷
    (phase_margin bode5 gives found (floats (0x4054_0000_0000_0000 ∷ []))) ∷
    (gain_crossover bode6 gives found (floats (0x4004_0000_0000_0000 ∷ []))) ∷
    (phase_crossover bode6 gives found (floats (0x4004_0000_0000_0000 ∷ []))) ∷
    (gain_margin bode6 gives found (floats (0x8000_0000_0000_0000 ∷ []))) ∷
    (phase_margin bode6 gives found (floats (0x0000_0000_0000_0000 ∷ []))) ∷
    (gain_crossover bode7 gives found (floats (0x4008_0000_0000_0000 ∷ []))) ∷
    (phase_crossover bode7 gives found (floats (0x4008_0000_0000_0000 ∷ []))) ∷
    (gain_margin bode7 gives none) ∷
    (phase_margin bode7 gives none) ∷
    (sensitivity_crossover sensitivity5 gives none) ∷
    (bandwidth sensitivity5 gives none) ∷
    (gain_crossover bode8 gives found (floats (0x3fcc_7120_d736_449b ∷ []))) ∷
    (phase_crossover bode8 gives found (floats (0x3fb9_9999_9999_999a ∷ []))) ∷
    (gain_margin bode8 gives found (floats (0x3ca3_8d69_0d03_d5c2 ∷ []))) ∷
    (phase_margin bode8 gives found (floats (0x4018_70c3_5044_cb40 ∷ []))) ∷
    (sensitivity_crossover sensitivity6 gives found (floats (0x3fd3_3333_3333_3333 ∷ []))) ∷
    (bandwidth sensitivity6 gives none) ∷
    (gain_crossover bode9 gives found (floats (0x3fc5_3c99_9803_7e86 ∷ []))) ∷
    (phase_crossover bode9 gives found (floats (0x3fb9_9999_9999_999a ∷ []))) ∷
    (gain_margin bode9 gives found (floats (0xbc95_177f_fc08_bc50 ∷ []))) ∷
    (phase_margin bode9 gives found (floats (0x400a_5d5f_fb0a_eb80 ∷ []))) ∷
    (sensitivity_crossover sensitivity7 gives none) ∷
    (bandwidth sensitivity7 gives none) ∷
    (gain_crossover bode10 gives found (floats (0x8000_0000_0000_0000 ∷ []))) ∷
    (phase_crossover bode10 gives found (floats (0x0000_0000_0000_0000 ∷ []))) ∷
    (gain_margin bode10 gives found (floats (0x8000_0000_0000_0000 ∷ []))) ∷
    (phase_margin bode10 gives found (floats (0x0000_0000_0000_0000 ∷ []))) ∷
    (sensitivity_crossover sensitivity8 gives found (floats (0x8000_0000_0000_0000 ∷ []))) ∷
    (bandwidth sensitivity8 gives found (floats (0x3fe8_0000_0000_0000 ∷ []))) ∷
    (sensitivity_crossover sensitivity9 gives found (floats (0x3ff0_0000_0000_0000 ∷ []))) ∷
    (bandwidth sensitivity9 gives found (floats (0x4000_0000_0000_0000 ∷ []))) ∷
    (distance_to_critical curve1 gives found (floats (0x4018_27d0_e214_e309 ∷ []))) ∷
    (distance_to_critical curve2 gives found (floats (0x3ff0_0000_0400_0000 ∷ []))) ∷
    (distance_to_critical curve3 gives found (floats (0x3fef_ffff_f800_0001 ∷ []))) ∷
    (gain_crossover bode11 gives refused 11) ∷
    (phase_crossover bode11 gives refused 11) ∷
    (gain_margin bode11 gives refused 11) ∷
    (phase_margin bode11 gives refused 11) ∷
    (sensitivity_crossover sensitivity10 gives refused 11) ∷
    (bandwidth sensitivity10 gives refused 11) ∷
    (distance_to_critical curve4 gives refused 11) ∷
    (gain_crossover bode12 gives refused 15) ∷
    (phase_crossover bode12 gives refused 15) ∷
    (gain_margin bode12 gives refused 15) ∷
    (phase_margin bode12 gives refused 15) ∷
    (distance_to_critical curve5 gives refused 15) ∷
    []

-- ---- grids shorter than the list; a product that overflows; subnormals; refusals

unfoldable pub grids : List Row
unfolding of_bits
grids =
    (gain_grid (bits 0x4023_d8fb_a7fd_689d) 7 (floats (0xbfd4_3e69_2acf_5f6c ∷ 0xbfea_f802_24d1_23de ∷ 0x3f87_f330_e14e_b180 ∷ 0xbf99_d4ff_6222_8900 ∷ 0x3fe2_df1d_bf3d_8fcc ∷ 0x3fee_5ff5_b04c_e3b4 ∷ 0x3fed_bc9d_9e8c_48ba ∷ 0xbfd6_55a5_a0a7_efb8 ∷ 0x3fbf_e5d7_1c8d_5940 ∷ [])) gives leaves 0 (floats (0x0000_0000_0000_0000 ∷ 0x3ffa_76a4_dffc_8b7c ∷ 0x400a_76a4_dffc_8b7c ∷ 0x4013_d8fb_a7fd_689d ∷ 0x401a_76a4_dffc_8b7c ∷ 0x4020_8a27_0bfd_d72d ∷ 0x4023_d8fb_a7fd_689d ∷ 0xbfd6_55a5_a0a7_efb8 ∷ 0x3fbf_e5d7_1c8d_5940 ∷ []))) ∷
    (gain_grid (bits 0x7fef_ffff_ffff_ffff) 4 (floats (0xbfdd_945b_b4a8_c03c ∷ 0x3fe2_ab3e_65f7_467e ∷ 0x3fe4_0bac_7314_9406 ∷ 0xbfe8_3dd0_5e3d_5bd4 ∷ [])) gives leaves 0 (floats (0x0000_0000_0000_0000 ∷ 0x7fd5_5555_5555_5555 ∷ 0x7ff0_0000_0000_0000 ∷ 0x7ff0_0000_0000_0000 ∷ []))) ∷
    (gain_grid (bits 0x000f_6ae3_d41c_7f57) 4 (floats (0xbfe3_a293_ecea_480e ∷ 0xbfec_c2b9_a4a8_64e0 ∷ 0xbfda_e24e_f5df_4708 ∷ 0x3fe2_592d_7eb7_5e34 ∷ 0xbfb1_1e0f_adf9_cd90 ∷ [])) gives leaves 0 (floats (0x0000_0000_0000_0000 ∷ 0x0005_23a1_46b4_2a72 ∷ 0x000a_4742_8d68_54e5 ∷ 0x000f_6ae3_d41c_7f57 ∷ 0xbfb1_1e0f_adf9_cd90 ∷ []))) ∷
    (gain_grid (bits 0xbff0_0000_0000_0000) 1 (floats ([])) gives leaves 1 (floats ([]))) ∷
    (gain_grid (bits 0x8000_0000_0000_0000) 4097 (floats (0xbfee_8453_b694_f084 ∷ 0xbfea_0766_1e1e_ad80 ∷ [])) gives leaves 3 (floats (0xbfee_8453_b694_f084 ∷ 0xbfea_0766_1e1e_ad80 ∷ []))) ∷
    (gain_grid (bits 0x3ff0_0000_0000_0000) 4097 (floats (0x3fe9_7003_8eb3_f38c ∷ 0xbfd0_42aa_f815_6088 ∷ [])) gives leaves 15 (floats (0x3fe9_7003_8eb3_f38c ∷ 0xbfd0_42aa_f815_6088 ∷ []))) ∷
    (gain_grid (bits 0x3ff0_0000_0000_0000) 3 (floats (0x3fcc_8aef_dedd_92a0 ∷ 0x3fa4_f519_e114_4980 ∷ [])) gives leaves 14 (floats (0x3fcc_8aef_dedd_92a0 ∷ 0x3fa4_f519_e114_4980 ∷ []))) ∷
    (frequency_grid (bits 0x4021_24ff_e848_c6a0) 7 (floats (0xbfef_44ef_efd4_53ce ∷ 0xbfef_469e_d481_0ee6 ∷ 0x3fc8_5175_0de3_7a60 ∷ 0xbfe0_75fb_336d_5392 ∷ 0xbfdb_e541_00d4_abf4 ∷ 0xbfd5_e6f9_90b5_9184 ∷ 0x3fe9_6655_88c5_24a6 ∷ 0xbfe0_0510_cde4_a016 ∷ 0xbfcd_8137_1e9a_2d48 ∷ [])) gives leaves 0 (floats (0x0000_0000_0000_0000 ∷ 0x3ff6_dbff_e061_08d5 ∷ 0x4006_dbff_e061_08d5 ∷ 0x4011_24ff_e848_c6a0 ∷ 0x4016_dbff_e061_08d5 ∷ 0x401c_92ff_d879_4b0b ∷ 0x4021_24ff_e848_c6a0 ∷ 0xbfe0_0510_cde4_a016 ∷ 0xbfcd_8137_1e9a_2d48 ∷ []))) ∷
    (frequency_grid (bits 0x7fef_ffff_ffff_ffff) 4 (floats (0x3fd3_e95b_2ec0_0f58 ∷ 0x3f86_8ce4_4733_3980 ∷ 0x3fec_5b93_5338_64a8 ∷ 0x3fe6_160c_3c28_edc6 ∷ [])) gives leaves 0 (floats (0x0000_0000_0000_0000 ∷ 0x7fd5_5555_5555_5554 ∷ 0x7fe5_5555_5555_5554 ∷ 0x7fef_ffff_ffff_ffff ∷ []))) ∷
    (frequency_grid (bits 0x0003_557a_7d36_19b4) 4 (floats (0x3fe2_4e91_3a5a_a474 ∷ 0x3fdb_1442_dae8_772c ∷ 0x3fec_46c9_39ca_c242 ∷ 0xbfee_a516_cae3_af0a ∷ 0x3fe3_8804_bb29_7e2a ∷ [])) gives leaves 0 (floats (0x0000_0000_0000_0000 ∷ 0x0001_1c7e_29bc_b33c ∷ 0x0002_38fc_5379_6678 ∷ 0x0003_557a_7d36_19b4 ∷ 0x3fe3_8804_bb29_7e2a ∷ []))) ∷
    (frequency_grid (bits 0xbff0_0000_0000_0000) 1 (floats ([])) gives leaves 1 (floats ([]))) ∷
    (frequency_grid (bits 0x8000_0000_0000_0000) 4097 (floats (0x3f97_a738_811f_9980 ∷ 0x3fc8_7bcb_9993_d9e8 ∷ [])) gives leaves 2 (floats (0x3f97_a738_811f_9980 ∷ 0x3fc8_7bcb_9993_d9e8 ∷ []))) ∷
    (frequency_grid (bits 0x3ff0_0000_0000_0000) 4097 (floats (0xbfe9_fafd_9239_a34e ∷ 0xbfd6_4b1b_6fd1_3608 ∷ [])) gives leaves 15 (floats (0xbfe9_fafd_9239_a34e ∷ 0xbfd6_4b1b_6fd1_3608 ∷ []))) ∷
    (frequency_grid (bits 0x3ff0_0000_0000_0000) 3 (floats (0x3fdf_263a_71b2_6a74 ∷ 0x3fe5_9ff3_847a_f0b2 ∷ [])) gives leaves 14 (floats (0x3fdf_263a_71b2_6a74 ∷ 0x3fe5_9ff3_847a_f0b2 ∷ []))) ∷
    []

-- ---- sweeps that come in parts, refused ones among them; fed, and joined in some bracketing

abbrev bode13 : Bode
bode13 =
    record {
      omega = floats (0x3f9a_e1e0_953f_b55f ∷ []);
      db = floats (0xc021_ac90_42fb_c358 ∷ []);
      phase = floats (0xc066_0838_b4c6_0083 ∷ []);
    }

abbrev bode14 : Bode
bode14 =
    record {
      omega = floats (0x4000_0000_0000_0000 ∷ []);
      db = floats (0xbcb0_0000_0000_0000 ∷ []);
      phase = floats (0xc065_e733_86b4_19d9 ∷ 0xc065_e733_86b4_19d9 ∷ []);
    }

abbrev bode15 : Bode
bode15 =
    record {
      omega = floats (0x3fa9_009b_5c80_c690 ∷ 0x3faa_e5ca_298a_a26a ∷ 0x3fb7_5e4b_b8db_e268 ∷ []);
      db = floats (0x4016_2c29_c986_149c ∷ 0x4022_341e_c249_ed06 ∷ 0x3fa4_28a2_6fb3_6700 ∷ []);
      phase = floats (0xc066_9d15_67d7_b498 ∷ 0xc066_6d56_c35d_e316 ∷ 0xc066_0f9f_f028_4984 ∷ []);
    }

abbrev bode16 : Bode
bode16 =
    record {
      omega = floats ([]);
      db = floats ([]);
      phase = floats ([]);
    }

abbrev bode17 : Bode
bode17 =
    record {
      omega = floats (0x3fbc_e5ff_f552_85d1 ∷ 0x3fc7_1402_f689_736b ∷ []);
      db = floats (0x4020_44b2_a612_6cb8 ∷ 0xc012_4b31_6013_f5da ∷ []);
      phase = floats (0xc067_00b1_940f_ae8f ∷ 0xc067_5d7f_ad5b_59f6 ∷ []);
    }

abbrev bode18 : Bode
bode18 =
    record {
      omega = floats (0x3fb0_a66e_9e4b_78c6 ∷ []);
      db = floats (0xc021_b2d2_e141_95ff ∷ []);
      phase = floats (0xc066_b5e1_bc96_9f39 ∷ []);
    }

abbrev bode19 : Bode
bode19 =
    record {
      omega = floats (0x3fb6_b286_f6c5_b8e4 ∷ []);
      db = floats (0x4012_4680_2a0a_df9a ∷ []);
      phase = floats (0xc065_5dc1_b910_a151 ∷ 0xc065_5dc1_b910_a151 ∷ []);
    }

abbrev bode20 : Bode
bode20 =
    record {
      omega = floats ([]);
      db = floats ([]);
      phase = floats ([]);
    }

abbrev bode21 : Bode
bode21 =
    record {
      omega = floats ([]);
      db = floats ([]);
      phase = floats ([]);
    }

abbrev bode22 : Bode
bode22 =
    record {
      omega = floats (0x3fb7_6b57_021f_d013 ∷ 0x3fb8_7851_6789_ac5c ∷ 0x3fc4_79fb_49cc_c0a4 ∷ 0x3fd1_56be_3147_d362 ∷ []);
      db = floats (0xbff7_a561_e270_6558 ∷ 0x4010_b3df_b0bf_db70 ∷ 0xbffc_3555_38dc_15e0 ∷ 0x4012_9eaf_ca93_5422 ∷ []);
      phase = floats (0xc065_6daf_a9bf_587b ∷ 0xc067_abe7_1919_b085 ∷ 0xc067_43b7_50d4_24a7 ∷ 0xc066_9418_5b8c_5f3a ∷ []);
    }

abbrev bode23 : Bode
bode23 =
    record {
      omega = floats (0x3fd9_edbb_683f_7c99 ∷ []);
      db = floats (0x4018_5149_b998_a2c0 ∷ []);
      phase = floats (0xc065_cb1d_2e02_dd2f ∷ []);
    }

abbrev bode24 : Bode
bode24 =
    record {
      omega = floats (0x3f81_e69e_add9_e575 ∷ []);
      db = floats (0x3ff8_7bd4_8dab_9168 ∷ []);
      phase = floats (0xc066_056f_0e32_ea80 ∷ []);
    }

abbrev bode25 : Bode
bode25 =
    record {
      omega = floats (0x4008_0000_0000_0000 ∷ []);
      db = floats (0x4031_afbd_03ff_4a11 ∷ 0x4031_afbd_03ff_4a11 ∷ []);
      phase = floats (0xc065_3c11_07c7_7b01 ∷ []);
    }

abbrev bode26 : Bode
bode26 =
    record {
      omega = floats (0x3f8c_00d5_20b8_4560 ∷ 0x3f97_81a0_7210_e62c ∷ 0x3fa3_cc14_cf0c_a7bf ∷ 0x3fab_2b25_0114_8249 ∷ []);
      db = floats (0x401d_ddef_6113_6940 ∷ 0x401d_f422_7115_88d8 ∷ 0xc023_11f1_0144_dd8b ∷ 0x4021_e71b_9347_e3cc ∷ []);
      phase = floats (0xc066_4163_2ae3_2608 ∷ 0xc066_fa5a_5040_f77b ∷ 0xc066_16d1_770c_6126 ∷ 0xc066_22e0_9455_afd9 ∷ []);
    }

abbrev bode27 : Bode
bode27 =
    record {
      omega = floats ([]);
      db = floats ([]);
      phase = floats ([]);
    }

abbrev bode28 : Bode
bode28 =
    record {
      omega = floats (0x3faf_4bb5_8615_0ecd ∷ []);
      db = floats (0xc011_5386_777c_b0f0 ∷ []);
      phase = floats (0xc067_15ff_4880_b580 ∷ []);
    }

abbrev sensitivity11 : Sensitivity
sensitivity11 =
    record {
      omega = floats (0xffd8_66fa_4a02_0ce3 ∷ 0xffd8_71c3_cfcc_1647 ∷ 0xffd5_6618_e532_4830 ∷ 0x7fef_07c1_47d6_0bc3 ∷ []);
      s = floats (0xc020_c172_c2f3_bff0 ∷ 0xc013_07a9_fd06_45d6 ∷ 0xc024_18f8_f7c7_57b8 ∷ 0xc010_790d_eff6_a87f ∷ []);
      t = floats (0xc031_1317_9c4e_aade ∷ 0xc032_0228_c3b3_d750 ∷ 0xc032_ca60_9d0f_11c4 ∷ 0x4010_b170_c446_01ac ∷ 0x4010_b170_c446_01ac ∷ []);
    }

abbrev sensitivity12 : Sensitivity
sensitivity12 =
    record {
      omega = floats (0x3fa0_6ef6_221d_1d32 ∷ 0x3fa0_fd23_ef23_ced9 ∷ 0x3fae_3d93_a2d8_0aa7 ∷ 0x3fb2_dc13_6049_7413 ∷ 0x3fc0_4c58_ec39_e0f3 ∷ []);
      s = floats (0x4019_b203_24b4_1bac ∷ 0xc019_a5da_702f_d5dc ∷ 0x3fee_513d_57b2_44e0 ∷ 0x4007_4948_798c_ea60 ∷ 0x400a_9aa5_88a3_7038 ∷ []);
      t = floats (0x4020_53a0_c365_0d94 ∷ 0xc003_9bf8_a255_6ff0 ∷ 0x401c_13ab_b821_4030 ∷ 0x4012_8cf4_4a57_c956 ∷ 0x3fdc_754f_14f1_2dc0 ∷ []);
    }

abbrev sensitivity13 : Sensitivity
sensitivity13 =
    record {
      omega = floats (0x3fc5_a705_ddc4_983c ∷ []);
      s = floats (0xc01a_b5ed_a077_fce6 ∷ []);
      t = floats (0x4022_fa3f_1ddb_9034 ∷ []);
    }

abbrev sensitivity14 : Sensitivity
sensitivity14 =
    record {
      omega = floats ([]);
      s = floats ([]);
      t = floats ([]);
    }

abbrev sensitivity15 : Sensitivity
sensitivity15 =
    record {
      omega = floats (0x3fa0_f178_4548_da05 ∷ 0x3faa_c722_294a_89eb ∷ 0x3fb7_077b_322e_955e ∷ []);
      s = floats (0x4005_e117_7c3e_125f ∷ 0x402f_76e0_16d2_6d09 ∷ 0x4011_5693_b80d_88e0 ∷ []);
      t = floats (0x4032_514f_f072_f0ff ∷ 0x4023_680f_c201_dc48 ∷ 0x3fdd_7199_8abd_c280 ∷ 0x3fdd_7199_8abd_c280 ∷ []);
    }

abbrev sensitivity16 : Sensitivity
sensitivity16 =
    record {
      omega = floats (0x3f7d_c325_5f27_f840 ∷ 0x3f7f_048e_0ac1_4754 ∷ []);
      s = floats (0x401e_d752_eeb1_e4d4 ∷ 0x4021_c429_99c3_823c ∷ []);
      t = floats (0xc016_f4f1_ee83_b6b6 ∷ 0x4013_4b1c_20cd_7ea2 ∷ []);
    }

abbrev sensitivity17 : Sensitivity
sensitivity17 =
    record {
      omega = floats (0x3f7f_9d92_e5da_8d2a ∷ 0x3f83_fa9d_f76e_8ead ∷ 0x3f88_203b_14a6_deb7 ∷ []);
      s = floats (0x4017_6cbe_05f4_e9ea ∷ 0xbff5_2ec7_8598_ffb8 ∷ 0x4001_3d66_4102_bc40 ∷ []);
      t = floats (0x3fb1_5f63_71fc_7a00 ∷ 0xc000_1285_88fa_b916 ∷ 0x4022_3571_729d_ab2e ∷ []);
    }

abbrev sensitivity18 : Sensitivity
sensitivity18 =
    record {
      omega = floats ([]);
      s = floats ([]);
      t = floats ([]);
    }

abbrev sensitivity19 : Sensitivity
sensitivity19 =
    record {
      omega = floats (0x3f93_912c_10ac_d1d3 ∷ []);
      s = floats (0xc021_00c0_1614_2359 ∷ []);
      t = floats (0xbfd7_f86f_d171_76a0 ∷ []);
    }

abbrev sensitivity20 : Sensitivity
sensitivity20 =
    record {
      omega = floats (0x3fb3_7f53_1308_083b ∷ 0x3fb5_a448_0cfa_9ef5 ∷ []);
      s = floats (0xbffa_f4d9_3d25_e690 ∷ 0x4011_716c_b5b0_b0e8 ∷ []);
      t = floats (0xc007_e39c_9ce2_bfd4 ∷ 0x4006_4e06_1124_cca0 ∷ []);
    }

abbrev sensitivity21 : Sensitivity
sensitivity21 =
    record {
      omega = floats ([]);
      s = floats ([]);
      t = floats ([]);
    }

abbrev sensitivity22 : Sensitivity
sensitivity22 =
    record {
      omega = floats (0x3fa3_b3c8_6daf_c33b ∷ 0x3fac_f0d6_1647_0095 ∷ 0x3faf_bf19_edc1_52bb ∷ 0x3fb1_372b_ace5_4de7 ∷ 0x3fb1_372b_ace5_4de7 ∷ []);
      s = floats (0xa402_c6fd_4b5d_dbcc ∷ 0xac2d_98f0_8f71_5e7b ∷ 0x652f_250c_e219_09d3 ∷ 0xe783_f2c7_a35b_9d8f ∷ []);
      t = floats (0x87c7_9e47_d2d5_4f88 ∷ 0x8e39_881c_dbe6_ccfd ∷ 0x8c4f_6f93_9fe9_dfa4 ∷ 0x4301_76d8_8635_eec7 ∷ []);
    }

abbrev sensitivity23 : Sensitivity
sensitivity23 =
    record {
      omega = floats (0x3fb8_4897_2e6f_17da ∷ 0x3fba_1b3a_80bb_300c ∷ 0x3fc5_8715_5d6d_759f ∷ 0x3fc9_ea84_24a3_e21f ∷ []);
      s = floats (0x3fff_a497_5e5c_9e90 ∷ 0x401b_1edd_66ea_f0c4 ∷ 0x3feb_6512_d29e_ed80 ∷ 0xc009_74ba_caa7_641c ∷ []);
      t = floats (0xc020_799e_c5ae_7a0d ∷ 0x400b_8ecb_3e4a_6b8c ∷ 0xc01d_56aa_470a_ce08 ∷ 0x4018_0c49_c4a7_b514 ∷ []);
    }

abbrev curve6 : Curve
curve6 =
    record {
      re = floats (0x7fc8_7c2b_b0eb_6242 ∷ 0x7fe6_4d1d_9878_527c ∷ 0x7fec_9de4_ed2c_e5c8 ∷ []);
      im = floats (0xffe7_ae45_985d_e519 ∷ 0x7fd9_f0a1_05b0_c027 ∷ 0xffda_51d7_67aa_1c8e ∷ 0x7fd0_723f_d130_4468 ∷ []);
    }

abbrev curve7 : Curve
curve7 =
    record {
      re = floats (0x401c_1cb4_7e9c_723c ∷ []);
      im = floats (0xc01d_c1cf_320b_44fc ∷ []);
    }

abbrev curve8 : Curve
curve8 =
    record {
      re = floats (0x401b_8037_9efd_a948 ∷ 0xc01e_24fc_fb10_ef96 ∷ []);
      im = floats (0x3fee_5522_6db8_1740 ∷ 0xc020_62ea_2075_abf7 ∷ []);
    }

abbrev curve9 : Curve
curve9 =
    record {
      re = floats ([]);
      im = floats ([]);
    }

abbrev curve10 : Curve
curve10 =
    record {
      re = floats (0xc022_5f54_fe96_7db5 ∷ 0xc025_a27d_15cb_2ef6 ∷ []);
      im = floats (0xc007_9f95_6b6a_8ae8 ∷ 0xbfeb_238c_8c66_a550 ∷ []);
    }

abbrev curve11 : Curve
curve11 =
    record {
      re = floats (0x4013_2b04_f48e_e4ae ∷ []);
      im = floats (0xc007_357e_e5a5_9b14 ∷ []);
    }

abbrev curve12 : Curve
curve12 =
    record {
      re = floats (0x4021_c47e_d0d2_1a40 ∷ 0x4021_1daf_92b1_d252 ∷ []);
      im = floats (0x4004_fd7d_ed59_cae0 ∷ 0xc018_8d16_fd25_74a0 ∷ []);
    }

abbrev curve13 : Curve
curve13 =
    record {
      re = floats (0x7fc3_1991_6e29_cffb ∷ 0x7fc3_1991_6e29_cffb ∷ []);
      im = floats (0x7fd1_c7ce_92d7_d5ba ∷ []);
    }

abbrev curve14 : Curve
curve14 =
    record {
      re = floats (0x4000_e55f_b8d8_8950 ∷ 0xc013_05ea_a463_ff24 ∷ []);
      im = floats (0x3fe4_7160_06bd_27c0 ∷ 0x3ff0_e90b_1c8d_aa10 ∷ []);
    }

abbrev curve15 : Curve
curve15 =
    record {
      re = floats (0xc020_89fc_3272_1de4 ∷ []);
      im = floats (0x4021_7de3_20aa_cb42 ∷ []);
    }

abbrev curve16 : Curve
curve16 =
    record {
      re = floats (0xc01c_c6b0_5fd2_71e2 ∷ []);
      im = floats (0x4023_7670_52a1_16fe ∷ []);
    }

abbrev curve17 : Curve
curve17 =
    record {
      re = floats (0x3cb0_0000_0000_0000 ∷ 0xbe50_0000_0000_0000 ∷ 0x800f_ffff_ffff_ffff ∷ 0x0000_0000_0000_0000 ∷ []);
      im = floats (0x0000_0000_0000_0001 ∷ 0x0000_0000_0000_0001 ∷ 0x7ff4_0000_dead_beef ∷ 0x800f_ffff_ffff_ffff ∷ 0x800f_ffff_ffff_ffff ∷ []);
    }

abbrev curve18 : Curve
curve18 =
    record {
      re = floats ([]);
      im = floats ([]);
    }

abbrev curve19 : Curve
curve19 =
    record {
      re = floats ([]);
      im = floats ([]);
    }

abbrev curve20 : Curve
curve20 =
    record {
      re = floats ([]);
      im = floats ([]);
    }

abbrev curve21 : Curve
curve21 =
    record {
      re = floats ([]);
      im = floats ([]);
    }

abbrev curve22 : Curve
curve22 =
    record {
      re = floats (0x3feb_5ffb_6128_f560 ∷ 0xc022_6697_5802_6ad1 ∷ 0x3ff8_fed6_f98c_e9e8 ∷ 0x401b_2ae0_4c70_ef44 ∷ 0x4020_4b7f_203d_8698 ∷ 0x4010_32ed_70b4_f392 ∷ []);
      im = floats (0x3ff7_853c_fb55_7d70 ∷ 0xc017_2795_72d0_9b52 ∷ 0x4022_e0f2_52a8_ac4c ∷ 0xbfe9_6358_6d12_a4c0 ∷ 0x4013_8599_6b2b_1d56 ∷ 0x401d_f658_aa14_e89c ∷ []);
    }

unfoldable pub summaries : List Row
unfolding of_bits
summaries =
    (gain_of_summary (feed (feed (feed (feed (feed start bode13) bode14) bode15) bode16) bode17) gives found (floats (0x3fa4_8bbe_1089_e1b4 ∷ []))) ∷
    (phase_of_summary (feed (feed (feed (feed (feed start bode13) bode14) bode15) bode16) bode17) gives found (floats (0x3fa6_be5e_372a_b380 ∷ []))) ∷
    (gain_of_summary (join (feed start bode18) (join (feed (feed (feed start bode19) bode20) bode21) (join (feed start bode22) (feed start bode23)))) gives found (floats (0x3fb7_b1a7_1cb6_d480 ∷ []))) ∷
    (phase_of_summary (join (feed start bode18) (join (feed (feed (feed start bode19) bode20) bode21) (join (feed start bode22) (feed start bode23)))) gives found (floats (0x3fb1_c2ef_04eb_2f80 ∷ []))) ∷
    (gain_of_summary (join (feed (feed (feed (feed start bode24) bode25) bode26) bode27) (feed start bode28)) gives found (floats (0x3f9e_9552_30cb_600d ∷ []))) ∷
    (phase_of_summary (join (feed (feed (feed (feed start bode24) bode25) bode26) bode27) (feed start bode28)) gives found (floats (0x3f91_3815_0726_3fcc ∷ []))) ∷
    (crossover_of_summary (feed (feed (feed start sensitivity11) sensitivity12) sensitivity13) gives found (floats (0x3fb8_0206_333a_4813 ∷ []))) ∷
    (bandwidth_of_summary (feed (feed (feed start sensitivity11) sensitivity12) sensitivity13) gives found (floats (0x3fa0_9725_54e6_00d1 ∷ []))) ∷
    (crossover_of_summary (join (join (feed (feed (feed (feed start sensitivity14) sensitivity15) sensitivity16) sensitivity17) (feed start sensitivity18)) (feed start sensitivity19)) gives found (floats (0x3f84_59e2_ea54_a5b7 ∷ []))) ∷
    (bandwidth_of_summary (join (join (feed (feed (feed (feed start sensitivity14) sensitivity15) sensitivity16) sensitivity17) (feed start sensitivity18)) (feed start sensitivity19)) gives not_kept) ∷
    (crossover_of_summary (join (feed (feed start sensitivity20) sensitivity21) (feed (feed start sensitivity22) sensitivity23)) gives found (floats (0x3fc7_9862_1136_45c7 ∷ []))) ∷
    (bandwidth_of_summary (join (feed (feed start sensitivity20) sensitivity21) (feed (feed start sensitivity22) sensitivity23)) gives not_kept) ∷
    (approach_of_summary (feed (feed (feed (feed (feed (feed start curve6) curve7) curve8) curve9) curve10) curve11) gives found (floats (0x4019_e96c_eb23_d20e ∷ []))) ∷
    (approach_of_summary (join (feed (feed (feed (feed start curve12) curve13) curve14) curve15) (feed start curve16)) gives found (floats (0x4009_6a47_448f_17cb ∷ []))) ∷
    (approach_of_summary (join (join (feed (feed (feed start curve17) curve18) curve19) (join (feed start curve20) (feed start curve21))) (feed start curve22)) gives found (floats (0x4002_f012_31aa_5f38 ∷ []))) ∷
    []

-- ---- all of them

unfoldable pub asked : List Row
asked = square_roots ++ complex_numbers ++ responses ++ starts ++ formulas ++ quartic ++ quintic ++ sextic ++ septic ++ octic ++ searches ++ regions ++ endings ++ ended_at_once ++ ended_soon ++ scans ++ grids ++ summaries
