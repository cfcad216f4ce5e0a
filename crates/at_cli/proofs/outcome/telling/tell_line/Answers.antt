use Rattle.std.proofs.Common.{sym}
use Rattle.at_cli.proofs.outcome.telling.tell_line.Goals as goal

pub returns-in-Usage : goal.returns-in-Usage
returns-in-Usage g c = rw c.in-Usage.is c.put_parts.ensures

pub returns-in-ReadFailed : goal.returns-in-ReadFailed
returns-in-ReadFailed g c = rw (c.in-ReadFailed.is, sym c.as_str-in-ReadFailed.ensures) c.put_parts-in-ReadFailed.ensures

pub returns-in-TooLarge : goal.returns-in-TooLarge
returns-in-TooLarge g c = rw (c.in-TooLarge.is, sym c.as_str-in-TooLarge.ensures) c.put_parts-in-TooLarge.ensures

pub returns-in-NoMemory : goal.returns-in-NoMemory
returns-in-NoMemory g c = rw c.in-NoMemory.is c.put_parts-in-NoMemory.ensures

pub returns-in-Names : goal.returns-in-Names
returns-in-Names g c = rw c.in-Names.is c.put_parts-in-Names.ensures
