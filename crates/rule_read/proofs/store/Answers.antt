-- `rule_read::store` meets its contract: by what the line says; only a state and a rule add anything.
use native.Mathlib.Omega.{arith}
use Rattle.paper.specs.Limits.{limits}
use Rattle.rule_read.proofs.Said.{wide_limits}
use Rattle.rule_read.proofs.Storing.{fits_state, fits_rule, stored_head, stored_faulty, stored_state, stored_rule}
use Rattle.rule_read.proofs.store.Goals as goal

pub overflow_mul-marks : goal.overflow_mul-marks
overflow_mul-marks c = omega (arith, (fits_state c.requires c.in-State.is).1)

pub overflow_add-marks : goal.overflow_add-marks
overflow_add-marks c = omega (arith, (fits_state c.requires c.in-State.is).1)

pub bounds-marks-done : goal.bounds-marks-done
bounds-marks-done c = (fits_state c.requires c.in-State.is).0

pub returns-in-Head : goal.returns-in-Head
returns-in-Head c = stored_head limits.width _ _ _ _ c.in-Head.is

pub returns-in-State : goal.returns-in-State
returns-in-State c = stored_state limits.width _ _ _ _ c.in-State.is (fits_state c.requires c.in-State.is).0

pub returns-in-Rule : goal.returns-in-Rule
returns-in-Rule c = stored_rule limits.width _ _ _ _ wide_limits c.in-Rule.is (fits_rule c.requires c.in-Rule.is) (c.put_rule.ensures.fits (fits_rule c.requires c.in-Rule.is)).holds

pub returns-in-Faulty : goal.returns-in-Faulty
returns-in-Faulty c = stored_faulty limits.width _ _ _ _ c.in-Faulty.is
