use Rattle.imp_channel.proofs.Spellings.{frame_again, frame_read, one_frame}
use Rattle.imp_channel.proofs.law.spellings.Goals as goal

pub returns-clause-again : goal.returns-clause-again
returns-clause-again c = frame_again

pub returns-clause-read : goal.returns-clause-read
returns-clause-read c = frame_read

pub returns-clause-one : goal.returns-clause-one
returns-clause-one c = one_frame
