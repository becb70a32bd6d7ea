-- What a limit means.
use Rattle.carrier_model.specs.Limits as plain
use Rattle.msg_tree.specs.declared.target_limits.Limit.{Limit}
use Rattle.msg_tree.specs.declared.target_limits.Limit.TheVariants.{Names, Recipients, Attachments, Size}

abbrev pub limit_of : Limit → plain.Limit
limit_of (Names counted) = plain.too_many_names counted
limit_of (Recipients counted) = plain.too_many_recipients counted
limit_of (Attachments counted) = plain.too_many_attachments counted
limit_of (Size counted) = plain.too_large counted
