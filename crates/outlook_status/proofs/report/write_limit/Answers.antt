use Rattle.outlook_status.proofs.report.write_limit.Goals as goal

pub returns-in-Names : goal.returns-in-Names
returns-in-Names g c = rw c.in-Names.is c.write_count.ensures

pub returns-in-Recipients : goal.returns-in-Recipients
returns-in-Recipients g c = rw c.in-Recipients.is c.write_count-in-Recipients.ensures

pub returns-in-Attachments : goal.returns-in-Attachments
returns-in-Attachments g c = rw c.in-Attachments.is c.write_count-in-Attachments.ensures

pub returns-in-Size : goal.returns-in-Size
returns-in-Size g c = rw c.in-Size.is c.write_count-in-Size.ensures
