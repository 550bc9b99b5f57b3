use Rattle.program_driver.proofs.reporting.counts.Goals as goal

pub returns : goal.returns
returns c w r shows = λ i. record {
  instructions = c.own_done.ensures w r shows i;
  stalls = c.stalls.ensures w r shows i;
  restarts = c.restarts.ensures w r shows i;
  matched = c.matched.ensures w r shows i;
  hints = c.hints.ensures w r shows i;
  regions = c.regions_most.ensures w r shows i;
  shadow = c.shadow_done.ensures w r shows i;
  state = c.shadow.ensures w r shows i;
}
