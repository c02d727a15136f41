-- What goes to `send` is the text for what was received.
use Rattle.pose.proofs.main.Goals as goal

pub send-requires : goal.send-requires
send-requires c = c.reply_to-text.ensures
