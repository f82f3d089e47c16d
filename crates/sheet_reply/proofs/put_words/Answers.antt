-- In each arm the fault is that case, and its words are put.
use Rattle.sheet_reply.specs.Replies.{fault_words}
use Rattle.sheet_reply.proofs.Laws.{words_of}
use Rattle.texts.specs.Pool.{bytes}
use Rattle.sheet_reply.proofs.put_words.Goals as goal

pub returns-in-None : goal.returns-in-None
unfolding fault_words bytes
returns-in-None c = words_of c.in-None.is c.put_bytes.ensures

pub returns-in-NoCode : goal.returns-in-NoCode
unfolding fault_words bytes
returns-in-NoCode c = words_of c.in-NoCode.is c.put_bytes-in-NoCode.ensures

pub returns-in-NoText : goal.returns-in-NoText
unfolding fault_words bytes
returns-in-NoText c = words_of c.in-NoText.is c.put_bytes-in-NoText.ensures

pub returns-in-NotRising : goal.returns-in-NotRising
unfolding fault_words bytes
returns-in-NotRising c = words_of c.in-NotRising.is c.put_bytes-in-NotRising.ensures

pub returns-in-TooLong : goal.returns-in-TooLong
unfolding fault_words bytes
returns-in-TooLong c = words_of c.in-TooLong.is c.put_bytes-in-TooLong.ensures
