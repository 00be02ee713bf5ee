use Rattle.c_state.proofs.StateLaws.{stored-state}
use Rattle.c_state.proofs.store.Goals as goal

pub returns : goal.returns
returns c =
    stored-state c.args.state c.args.buf.now _ _ c.requires c.store_head.ensures c.store_history.ensures
