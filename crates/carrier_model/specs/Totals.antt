-- How many things a tree has over all its levels.
use Rattle.std.specs.Prelude.{ℕ, ◌+◌, ◌-◌, ◌^◌, min, length, sum_by}
use Rattle.carrier_model.specs.Tree.{Message, messages_in, props_of, recipients_of, attachments_of}

-- a number that is told in 64 bits stays at the greatest where the true one is larger
abbrev pub capped : ℕ → ℕ
capped n = min n (2 ^ 64 - 1)

abbrev pub recipient_count : Message → ℕ
recipient_count m = length (recipients_of m)

abbrev pub attachment_count : Message → ℕ
attachment_count m = length (attachments_of m)

-- the properties of a message by itself, of its recipients and of its attachments
abbrev pub property_count : Message → ℕ
property_count m = length (props_of m) + sum_by length (recipients_of m) + sum_by (λ one. length one.0) (attachments_of m)

abbrev pub all_messages : Message → ℕ
all_messages t = length (messages_in t)

abbrev pub all_recipients : Message → ℕ
all_recipients t = sum_by recipient_count (messages_in t)

abbrev pub all_attachments : Message → ℕ
all_attachments t = sum_by attachment_count (messages_in t)

abbrev pub all_properties : Message → ℕ
all_properties t = sum_by property_count (messages_in t)
