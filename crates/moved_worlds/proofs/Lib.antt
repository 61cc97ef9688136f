mod Twins
