-- By what a life grows.
use Rattle.promise.specs.declared.life.Life.{Life}
use Rattle.net_sim.specs.Book.{carried, granted, returned}
pub use Rattle.net_sim.specs.declared.life.Growth.{Growth}
use Rattle.net_sim.specs.declared.life.Growth.TheVariants as growth

abbrev pub grown : Growth → Life → Life
grown (growth.Message bits) = carried bits.now
grown (growth.Grant messages bits) = granted messages bits
grown (growth.Return messages bits) = returned messages bits
