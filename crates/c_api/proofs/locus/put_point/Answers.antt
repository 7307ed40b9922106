use Rattle.std.proofs.Common.{◌≡◌, refl, sym, ℕ, List, Float, Result, Err}
use Rattle.sweep.specs.Refusal.{number_of}
use Rattle.sweep.specs.declared.FreqError.{FreqError}
use Rattle.sweep.proofs.Answers.{not_zero}
use Rattle.root_locus.specs.Locus.{point_of, no_point}
use Rattle.root_locus.specs.declared.LocusPoint.{LocusPoint}
use Rattle.c_api.specs.Points.{PointAnswers}
use Rattle.c_api.proofs.Laws.{kept_on_refusal}
use Rattle.c_api.proofs.locus.put_point.Goals as goal

-- a refused point leaves its places as they were
refused_point : (p : Result LocusPoint FreqError) {e : FreqError} {r : ℕ} (g : Float) (q : List Float) (n m : ℕ) (x : Float) → p ≡ Err e → r ≡ number_of e
    → PointAnswers (point_of p) r g g q q n n m m x x
unfolding point_of no_point
refused_point p {e} g q n m x h k =
    let turned_away : (point_of p).number ≡ 0 → ⊥ = rw h (not_zero e) in
    record {
      number_is = rw h k;
      gain_is = sym (kept_on_refusal (point_of p) _ g turned_away);
      poles_are = sym (kept_on_refusal (point_of p) _ q turned_away);
      count_is = sym (kept_on_refusal (point_of p) _ n turned_away);
      kind_is = sym (kept_on_refusal (point_of p) _ m turned_away);
      value_is = sym (kept_on_refusal (point_of p) _ x turned_away);
    }

pub returns-in-Err : goal.returns-in-Err
returns-in-Err c = refused_point _ _ _ _ _ _ c.in-Err.is c.number.ensures

pub returns-in-Ok : goal.returns-in-Ok
unfolding point_of no_point
returns-in-Ok c = rw c.in-Ok.is
    (record {
      number_is = refl;
      gain_is = refl;
      poles_are = c.put_poles.ensures;
      count_is = refl;
      kind_is = c.number-in-Ok.ensures;
      value_is = c.value.ensures;
    })
