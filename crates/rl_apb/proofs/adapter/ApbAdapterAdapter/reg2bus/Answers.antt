use Rattle.rl_bus.proofs.Words.{word_below_4}
use Rattle.rl_apb.proofs.adapter.ApbAdapterAdapter.reg2bus.Goals as goal

pub overflow_cast-result-2 : goal.overflow_cast-result-2
overflow_cast-result-2 c =
    let op = c.args.op.now in
    let below = word_below_4 op.bytes op.lanes op.word c.requires.fits.word c.requires.fits.wide in
    record { fits = below }
