use Rattle.mark_laws.proofs.OneInstruction.{flow_agrees, load_agrees, store_agrees}
use Rattle.mark_laws.proofs.OneCall.{plan_agrees, call_agrees, name_is_no_read}
use Rattle.mark_laws.proofs.one_instruction_agrees.Goals as goal

pub returns : goal.returns
returns c = record { flow = flow_agrees; load = load_agrees; store = store_agrees; plan = plan_agrees; call = call_agrees; name = name_is_no_read }
