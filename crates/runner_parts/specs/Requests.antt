-- What the outside answered to a request, by the calls on the store and the puts that this makes (this project's own).
use Rattle.std.specs.Prelude.{true, false}
use Rattle.run_model.specs.Run.{Answer}
use Rattle.world_io.specs.Logs.{StoreLog, AreOffered}
use Rattle.plain_runner.specs.Runs.{Outside}
use Rattle.move_requests.specs.Asked.{Asked, MayAnswer}
use Rattle.move_requests.specs.Offers.{store_call, offers_in}

-- the outside answered what was asked so, by the calls that were asked for and by no others
pub record IsAnswered (asked : Asked) (x : Answer) (old new : Outside) : Type 0 where
  pub may : MayAnswer asked x
  pub store : StoreLog old.store (store_call asked x) new.store
  pub out : AreOffered old.out (offers_in true asked x) new.out
  pub err : AreOffered old.err (offers_in false asked x) new.err
