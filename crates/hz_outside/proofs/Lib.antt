-- How the output of a sink grows
pub mod WrittenLemmas
-- What files that are opened by their names count gives what every store of files ensures
mod CountLemmas
-- What a reader lost in one read and then in another
mod ReadLemmas
