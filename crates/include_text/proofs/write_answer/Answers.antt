-- `include_text::write_answer` meets its contract, case by case.
use mathlib.Core.Path.{sym}
use Rattle.put.proofs.PutLaws.{fit_as, fit_then}
use Rattle.include_text.proofs.AnswerLaws.{text_included, text_refusal, text_witness, told_enough}
use Rattle.include_text.proofs.write_answer.Goals as goal

pub write_nodes-requires : goal.write_nodes-requires
write_nodes-requires c = told_enough c.args.witness.now (rw (rw c.in-Ok-Some.is at c.in-Ok-Some.field-0-is) at c.in-Ok-Some.is) c.requires

pub returns-in-Ok-None-clause-fit : goal.returns-in-Ok-None-clause-fit
returns-in-Ok-None-clause-fit c = fit_as (sym (text_included c.args.witness.now (rw (rw c.in-Ok-None.is at c.in-Ok-None.field-0-is) at c.in-Ok-None.is))) c.write_included.ensures.wrote.fits

pub returns-in-Err-clause-fit : goal.returns-in-Err-clause-fit
returns-in-Err-clause-fit c = fit_as (sym (text_refusal c.args.witness.now c.in-Err.is)) c.write_refused.ensures.wrote.fits

pub returns-in-Ok-Some-clause-fit : goal.returns-in-Ok-Some-clause-fit
returns-in-Ok-Some-clause-fit c = fit_as (sym (text_witness c.args.witness.now (rw (rw c.in-Ok-Some.is at c.in-Ok-Some.field-0-is) at c.in-Ok-Some.is))) (fit_then c.write_witness.ensures.wrote.fits c.write_nodes.ensures.fit)
