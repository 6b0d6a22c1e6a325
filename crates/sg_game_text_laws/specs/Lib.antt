pub mod GameTextFiles
