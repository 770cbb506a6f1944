-- What hosts with programs are notified of about data, among each other.
pub use Rattle.world_keeps_lives.specs.Told.{ToldAmong, has_stranger, told_among}
